-- The loops that find the beginnings.
use Rattle.std.specs.Prelude.{◌≡◌, Bool, List, ltb}
use Rattle.std.proofs.Math.Path.{refl}
use Rattle.std.proofs.Common.{sym, ◌∙◌}
use Rattle.std.proofs.Math.Bool.{true, false}
use Prim.Native.Nat.{ℕ, zero, suc, ◌+◌, ◌-◌, ◌*◌, ◌%◌, ◌<◌, ◌≤◌}
use Rattle.std.proofs.Math.Decide.{dec_lt}
use native.Mathlib.Omega.{arith}
use borrow.Author.Tests.{lt-ltb, le-ltb, eq-eqb, ne_eqb}
use Rattle.std.proofs.Math.ListN.{length}
use Rattle.lists.specs.Choice.{pick}
use Rattle.lists.specs.Count.{first}
use Rattle.lists.specs.CountLaws.{first_is}
use Rattle.tlv.specs.Packets.{octets, packets_ok, size_at, head_from}
use Rattle.tlv.specs.PacketLaws.{Packet, size_least, size_same, head_packet}
use Rattle.tlv.specs.Fill.{sent_at, sent_begins, stream_begins, report, lacking}
use Rattle.tlv.specs.FillLaws.{begins_behind}
use Rattle.tlv.specs.Honest.{sent_within, begins_within, sent_honest}

-- r is the first beginning at or behind `target`, in the packets and the fillers behind them
pub record Ahead (packets : List ℕ) (target r : ℕ) : Type 0 where
  pub begins : sent_begins packets r ≡ true
  pub none : (j : ℕ) → target ≤ j → j < r → sent_begins packets j ≡ false
  pub near : length packets < r → r < target + 4

pub record AheadNeeds (packets : List ℕ) (h target : ℕ) : Type 0 where
  pub right : packets_ok packets ≡ true
  pub from : Ahead packets target h
  pub room : target < 18446744073709551612

module _ (packets : List ℕ) (ok : packets_ok packets ≡ true) where
  first_begins : sent_begins packets 0 ≡ true
  unfolding sent_begins head_from
  first_begins = go (length packets) refl
    where
      go : (L : ℕ) → length packets ≡ L → sent_begins packets 0 ≡ true
      go zero e = begins_behind packets 0 (omega arith) ∙ rw e
      go (suc L) e = begins_within packets 0 (omega arith) ∙ rw e

  pub ahead_start : (target : ℕ) → Ahead packets target 0
  ahead_start target = record { begins = first_begins; none = λ j a b. absurd (omega arith); near = omega arith }

  pub within_packet : (h : ℕ) → sent_begins packets h ≡ true → h < length packets → Packet (octets packets) (length packets) h
  within_packet h t l = head_packet (octets packets) (length packets) (length packets) 0 h ok (sym (begins_within packets h l) ∙ t) l

  size_within : (h : ℕ) → sent_begins packets h ≡ true → h < length packets → size_at (sent_at packets) h ≡ size_at (octets packets) h
  size_within h t l =
      let w = (within_packet h t l).within in
      size_same (sent_at packets) (octets packets) h h (size_at (octets packets) h) (λ k m. sent_within packets (h + k) (omega arith)) (size_least (octets packets) h)

  pub ahead_packet : (target h size : ℕ) → h < target → h < length packets → size ≡ size_at (octets packets) h → Ahead packets target h → Ahead packets target (h + size)
  ahead_packet target h size l m e a =
      let g = sent_honest packets ok h a.begins in
      let w = (within_packet h a.begins m).within in
      let d : size ≡ size_at (sent_at packets) h = e ∙ sym (size_within h a.begins m) in
      record {
        begins = rw d g.next;
        none = λ j x y. g.between j (omega arith) (omega arith);
        near = λ x. absurd (omega arith);
      }

  -- behind the packets a filler begins at every fourth octet
  pub ahead_filler : (target : ℕ) → length packets ≤ target → Ahead packets target (target + lacking (target - length packets))
  ahead_filler target l =
      record {
        begins = begins_behind packets _ (omega arith) ∙ eq-eqb ((target + lacking (target - length packets) - length packets) % 4) 0 (omega arith);
        none = λ j x y. begins_behind packets j (omega arith) ∙ ne_eqb ((j - length packets) % 4) 0 (omega arith);
        near = λ x. omega arith;
      }

  -- a later target
  pub ahead_later : (target later r : ℕ) → target ≤ later → Ahead packets target r → Ahead packets later r
  ahead_later target later r l a = record { begins = a.begins; none = λ j x y. a.none j (omega arith) y; near = λ x. omega (arith, a.near x) }

-- the report from the next beginning, x, at or behind the slot's first octet
module _ (D : ℕ) (b : ℕ → Bool) (k x : ℕ) (from : D * k ≤ x) (none : (i : ℕ) → D * k ≤ i → i < x → b i ≡ false) (there : b x ≡ true) where
  report_inside : x < D * k + D → report D b k ≡ x - D * k
  unfolding report
  report_inside h =
      let d : D * k + (x - D * k) ≡ x = omega arith in
      let e : first D (λ i. b (D * k + i)) ≡ x - D * k
      = first_is D (λ i. b (D * k + i)) (x - D * k) (record { within = omega arith; before = λ i l. none (D * k + i) (omega arith) (omega arith); there = λ _. rw d there }) in
      rw (e, lt-ltb (x - D * k) D (omega arith))

  report_behind : D * k + D ≤ x → report D b k ≡ 65535
  unfolding report
  report_behind h =
      let e : first D (λ i. b (D * k + i)) ≡ D
      = first_is D (λ i. b (D * k + i)) D (record { within = omega arith; before = λ i l. none (D * k + i) (omega arith) (omega arith); there = λ l. absurd (omega arith) }) in
      rw (e, le-ltb D D (omega arith))

-- the report of slot k from the first beginning at or behind its first octet
module _ (D k : ℕ) (packets : List ℕ) (taken owed r : ℕ) (step : 0 < k → owed ≤ D * k) (a : Ahead packets (taken + (D * k - owed)) r) (reached : taken + (D * k - owed) ≤ r) where
  stream_none : D * k ≤ owed + (r - taken) → (i : ℕ) → D * k ≤ i → i < owed + (r - taken) → stream_begins packets taken owed i ≡ false
  unfolding stream_begins
  stream_none f i x y = go (dec_lt i owed)
    where
      go : Dec (i < owed) → stream_begins packets taken owed i ≡ false
      go (yes l) = rw (lt-ltb i owed l)
      go (no l) = rw (le-ltb i owed (omega arith)) (a.none (taken + (i - owed)) (omega arith) (omega arith))

  stream_there : stream_begins packets taken owed (owed + (r - taken)) ≡ true
  unfolding stream_begins
  stream_there =
      let e : taken + (owed + (r - taken) - owed) ≡ r = omega arith in
      rw (le-ltb (owed + (r - taken)) owed (omega arith), e) a.begins

  report_here : owed + (r - taken) < D * k + D → owed + (r - taken) - D * k ≡ report D (stream_begins packets taken owed) k
  report_here h =
      sym (report_inside D (stream_begins packets taken owed) k (owed + (r - taken)) (omega arith) (stream_none (omega arith)) stream_there h)

  report_none : D * k + D ≤ owed + (r - taken) → 65535 ≡ report D (stream_begins packets taken owed) k
  report_none h =
      sym (report_behind D (stream_begins packets taken owed) k (owed + (r - taken)) (omega arith) (stream_none (omega arith)) stream_there h)

  pub report_at : pick (ltb (owed + (r - taken) - D * k) D) (owed + (r - taken) - D * k) 65535 ≡ report D (stream_begins packets taken owed) k
  report_at = go (dec_lt (owed + (r - taken) - D * k) D)
    where
      go : Dec (owed + (r - taken) - D * k < D) → pick (ltb (owed + (r - taken) - D * k) D) (owed + (r - taken) - D * k) 65535 ≡ report D (stream_begins packets taken owed) k
      go (yes l) = rw (lt-ltb (owed + (r - taken) - D * k) D l) (report_here (omega arith))
      go (no l) = rw (le-ltb (owed + (r - taken) - D * k) D (omega arith)) (report_none (omega arith))
