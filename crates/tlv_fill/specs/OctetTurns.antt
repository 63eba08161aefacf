-- The slots in three pieces: owed octets, octets of packets, octets of fillers.
use Rattle.std.specs.Prelude.{◌≡◌, refl, List, ◌++◌, ℕ, ◌+◌, ◌-◌, ◌%◌, ◌<◌, ◌≤◌, min, length, get_or}
use Rattle.std.proofs.Common.{sym, ap, ◌∙◌, arith, lt-ltb, le-ltb}
use borrow.Rule.Slice.PartMut.{put_mid}
use Rattle.lists.specs.Count.{table}
use Rattle.lists.specs.CountLaws.{length_table, table_same, table_split}
use Rattle.lists.specs.Parts.{part}
use Rattle.lists.specs.PartLaws.{length_part, three_parts}
use Rattle.tlv.specs.Packets.{octets, run}
use Rattle.tlv.specs.Fill.{filler, sent_at, stream_at, filled}
use Rattle.tlv.specs.FillLaws.{sent_behind}
use Rattle.tlv.specs.Honest.{sent_within}
use Rattle.tlv.specs.SentLaws.{part_run}
use Rattle.tlv_fill.specs.Needs.{LayNeeds}

filled_pieces : (packets : List ℕ) (taken owed m r : ℕ) → taken + m ≤ length packets → (0 < r → taken + m ≡ length packets)
    → filled packets taken owed (owed + (m + r)) ≡ run (octets filler) (4 - owed) owed ++ (part taken (taken + m) packets ++ table r (λ i. get_or filler (i % 4) 0))
unfolding filled stream_at
filled_pieces packets taken owed m r within all =
    table_split owed (m + r) (stream_at packets taken owed)
    ∙ ap (λ (xs : List ℕ). xs ++ table (m + r) (λ i. stream_at packets taken owed (owed + i))) (table_same owed _ _ (λ k l. rw (lt-ltb k owed l)))
    ∙ ap (λ (xs : List ℕ). run (octets filler) (4 - owed) owed ++ xs)
    (table_same (m + r) _ (λ i. sent_at packets (taken + i)) (λ k l. let e : owed + k - owed ≡ k = omega arith in rw (le-ltb (owed + k) owed (omega arith), e))
    ∙ table_split m r (λ i. sent_at packets (taken + i))
    ∙ ap (λ (xs : List ℕ). xs ++ table r (λ i. sent_at packets (taken + (m + i))))
    (table_same m _ (λ i. octets packets (taken + i)) (λ k l. sent_within packets (taken + k) (omega arith)) ∙ sym (part_run taken m packets within))
    ∙ ap (λ (xs : List ℕ). part taken (taken + m) packets ++ xs)
    (table_same r _ (λ i. get_or filler (i % 4) 0)
    (λ k l.
    let a = all (omega arith) in
    let e : (taken + (m + k) - length packets) ≡ k = omega arith in
    sent_behind packets (taken + (m + k)) (omega arith) ∙ ap (λ (x : ℕ). get_or filler (x % 4) 0) e)))

-- three pieces one behind the other, m octets of packets as many as there are and as there is room for
module _ (packets : List ℕ) (taken owed m : ℕ) (slots : List ℕ) (needs : LayNeeds packets taken owed slots) (fewest : m ≡ min (length packets - taken) (length slots - owed)) where
  pub pieces_filled : (a b d : List ℕ) (x z : ℕ)
      → a ≡ table x (λ i. get_or filler ((4 - owed + i) % 4) 0) → x ≡ owed
      → b ≡ part taken (taken + m) packets
      → d ≡ table z (λ i. get_or filler ((0 + i) % 4) 0) → z ≡ length slots - (owed + m)
      → a ++ (b ++ d) ≡ filled packets taken owed (length slots)
  pieces_filled a b d x z ea ex eb ed ez =
      let within = needs.within in
      let few = needs.few in
      let room = needs.room in
      let r : ℕ = length slots - (owed + m) in
      let all : owed + (m + r) ≡ length slots = omega arith in
      let front : a ≡ run (octets filler) (4 - owed) owed
      = ea ∙ ap (λ (n : ℕ). table n (λ i. get_or filler ((4 - owed + i) % 4) 0)) ex
      ∙ table_same owed _ _ (λ k l. let e : (4 - owed + k) % 4 ≡ 4 - owed + k = omega arith in ap (λ (n : ℕ). get_or filler n 0) e) in
      let back : d ≡ table r (λ i. get_or filler (i % 4) 0)
      = ed ∙ ap (λ (n : ℕ). table n (λ i. get_or filler ((0 + i) % 4) 0)) ez
      ∙ table_same r _ _ (λ k l. let e : 0 + k ≡ k = omega arith in ap (λ (n : ℕ). get_or filler (n % 4) 0) e) in
      ap (λ (n : List ℕ). n ++ (b ++ d)) front
      ∙ ap (λ (n : List ℕ). run (octets filler) (4 - owed) owed ++ (n ++ d)) eb
      ∙ ap (λ (n : List ℕ). run (octets filler) (4 - owed) owed ++ (part taken (taken + m) packets ++ n)) back
      ∙ sym (filled_pieces packets taken owed m r (omega arith) (λ h. omega arith))
      ∙ ap (filled packets taken owed) all

  -- the same of pieces that were put one behind the other
  pub laid_pieces : (a b d : List ℕ) (x z : ℕ)
      → a ≡ table x (λ i. get_or filler ((4 - owed + i) % 4) 0) → x ≡ owed
      → b ≡ part taken (taken + m) packets
      → d ≡ table z (λ i. get_or filler ((0 + i) % 4) 0) → z ≡ length slots - (owed + m)
      → put_mid (owed + m) (length slots - (owed + m)) (put_mid owed (owed + m - owed) (put_mid 0 (owed - 0) slots a) b) d
      ≡ filled packets taken owed (length slots)
  laid_pieces a b d x z ea ex eb ed ez =
      let within = needs.within in
      let few = needs.few in
      let room = needs.room in
      let la : length a ≡ owed = ap length ea ∙ length_table x (λ i. get_or filler ((4 - owed + i) % 4) 0) ∙ ex in
      let lb : length b ≡ m = ap length eb ∙ length_part taken (taken + m) packets (omega arith) ∙ omega arith in
      let ld : length d ≡ length slots - (owed + m) = ap length ed ∙ length_table z (λ i. get_or filler ((0 + i) % 4) 0) ∙ ez in
      three_parts slots a b d owed (owed + m) (length slots) refl (omega arith) (omega arith) (la ∙ omega arith) (lb ∙ omega arith) ld
      ∙ pieces_filled a b d x z ea ex eb ed ez
