-- What arrives of a filled stream is what arrives of the lent packets.
use Rattle.std.specs.Prelude.{◌≡◌, Bool, leb}
use Rattle.std.proofs.Math.Path.{refl, sym, ap}
use Rattle.std.proofs.Common.{◌∙◌, get_or-take, get_or-drop}
use Rattle.std.proofs.Math.Bool.{true, false, and-false}
use mathlib.Core.List.{List, []}
use Prim.Native.Nat.{ℕ, ◌+◌, ◌-◌, ◌*◌, ◌%◌, ◌<◌, ◌≤◌}
use native.Mathlib.Omega.{arith}
use borrow.Author.Tests.{lt-ltb, le-ltb, le-leb, lt-leb, eqb-true}
use Rattle.std.proofs.Math.ListN.{length, get_or}
use Rattle.lists.specs.Count.{joined}
use Rattle.lists.specs.CountLaws.{joined_same, table_is, table_same, joined_quiet, joined_shift}
use Rattle.lists.specs.Parts.{part}
use Rattle.lists.specs.PartLaws.{length_part}
use Rattle.tlv.specs.Packets.{octets, packets_ok, size_at, empty_null, run, head_at}
use Rattle.tlv.specs.PacketLaws.{Packet, size_least, size_same, null_same, head_packet}
use Rattle.tlv.specs.Fill.{filler, sent_at, sent_begins, stream_at, stream_begins}
use Rattle.tlv.specs.FillLaws.{sent_behind, begins_behind}
use Rattle.tlv.specs.Honest.{sent_within, begins_within}
use Rattle.tlv.specs.ReadLaws.{arrives}
use Rattle.tlv.specs.Sent.{untouched, sent_packet}

pub part_run : (p m : ℕ) (xs : List ℕ) → p + m ≤ length xs → part p (p + m) xs ≡ run (octets xs) p m
part_run p m xs h =
    let e : p + m - p ≡ m = omega arith in
    table_is m _ (part p (p + m) xs) (length_part p (p + m) xs h ∙ e)
    (λ k l. rw e (get_or-take m _ k 0 l ∙ get_or-drop p xs k 0))

-- what does not begin, runs past the slots or is an empty null does not arrive
module _ (D n : ℕ) (lost : List ℕ) (o : ℕ → ℕ) (b : ℕ → Bool) (i : ℕ) where
  arrives_none : b i ≡ false → arrives D n lost o b i ≡ []
  unfolding arrives untouched
  arrives_none h = rw h

  arrives_past : D * n ≤ i → arrives D n lost o b i ≡ []
  unfolding arrives
  arrives_past h =
      rw (lt-leb (i + size_at o i) (D * n) (omega (arith, size_least o i)), and-false (untouched D n lost o b i))

  arrives_null : empty_null o i ≡ true → arrives D n lost o b i ≡ []
  unfolding arrives
  arrives_null h = rw (h, and-false (leb (i + size_at o i) (D * n)), and-false (untouched D n lost o b i))

module _ (D n : ℕ) (lost packets : List ℕ) (taken owed : ℕ) (ok : packets_ok packets ≡ true) (within : taken ≤ length packets) (room : owed ≤ D * n) where
  abbrev A : ℕ → List ℕ
  A i = arrives D n lost (stream_at packets taken owed) (stream_begins packets taken owed) i

  abbrev S : ℕ → List ℕ
  S = sent_packet D n lost packets taken owed

  stream_sent : (k : ℕ) → stream_at packets taken owed (owed + k) ≡ sent_at packets (taken + k)
  unfolding stream_at
  stream_sent k = let e : owed + k - owed ≡ k = omega arith in rw (le-ltb (owed + k) owed (omega arith), e)

  begins_sent : (k : ℕ) → stream_begins packets taken owed (owed + k) ≡ sent_begins packets (taken + k)
  unfolding stream_begins
  begins_sent k = let e : owed + k - owed ≡ k = omega arith in rw (le-ltb (owed + k) owed (omega arith), e)

  -- the owed octets
  owed_none : (i : ℕ) → i < owed → A i ≡ []
  unfolding stream_begins
  owed_none i h = arrives_none D n lost _ (stream_begins packets taken owed) i (rw (lt-ltb i owed h))

  -- a filler
  filler_none : (k : ℕ) → length packets ≤ taken + k → A (owed + k) ≡ []
  unfolding empty_null size_at
  filler_none k h = go (stream_begins packets taken owed (owed + k)) refl
    where
      go : (t : Bool) → stream_begins packets taken owed (owed + k) ≡ t → A (owed + k) ≡ []
      go false e = arrives_none D n lost _ (stream_begins packets taken owed) (owed + k) e
      go true e =
          let r : (taken + k - length packets) % 4 ≡ 0 = eqb-true _ 0 (sym (begins_behind packets (taken + k) h) ∙ sym (begins_sent k) ∙ e) in
          let same : (x : ℕ) → x < 4 → stream_at packets taken owed (owed + k + x) ≡ octets filler (0 + x)
          = λ x m.
          let a : owed + k + x ≡ owed + (k + x) = omega arith in
          let d : (taken + (k + x) - length packets) % 4 ≡ 0 + x = omega arith in
          rw a (stream_sent (k + x) ∙ sent_behind packets (taken + (k + x)) (omega arith) ∙ ap (λ (y : ℕ). get_or filler y 0) d) in
          arrives_null D n lost (stream_at packets taken owed) (stream_begins packets taken owed) (owed + k)
          (null_same (stream_at packets taken owed) (octets filler) (owed + k) 0 4 same (omega arith))

  sent_before : (j : ℕ) → j < taken → S j ≡ []
  unfolding sent_packet
  sent_before j h = rw (lt-leb taken j h)

  -- a packet
  packet_arrives : (k : ℕ) → taken + k < length packets → A (owed + k) ≡ S (taken + k)
  unfolding arrives untouched sent_packet
  packet_arrives k h = go (head_at packets (taken + k)) refl
    where
      go : (t : Bool) → head_at packets (taken + k) ≡ t → A (owed + k) ≡ S (taken + k)
      go false e =
          rw (le-leb taken (taken + k) (omega arith), e)
          (arrives_none D n lost (stream_at packets taken owed) (stream_begins packets taken owed) (owed + k) (begins_sent k ∙ begins_within packets (taken + k) h ∙ e))
      go true e =
          let o : ℕ → ℕ = octets packets in
          let u : ℕ → ℕ = stream_at packets taken owed in
          let j : ℕ = taken + k in
          let i : ℕ = owed + k in
          let g : Packet o (length packets) j = head_packet o (length packets) (length packets) 0 j ok e h in
          let w : j + size_at o j ≤ length packets = g.within in
          let four = size_least o j in
          let same : (x : ℕ) → x < size_at o j → u (i + x) ≡ o (j + x)
          = λ x m.
          let a : owed + k + x ≡ owed + (k + x) = omega arith in
          let c : taken + (k + x) ≡ taken + k + x = omega arith in
          rw a (stream_sent (k + x) ∙ ap (sent_at packets) c ∙ sent_within packets (taken + k + x) (omega arith)) in
          let size : size_at u i ≡ size_at o j = size_same u o i j (size_at o j) same four in
          let null : empty_null u i ≡ empty_null o j = null_same u o i j (size_at o j) same four in
          let octs : run u i (size_at o j) ≡ part j (j + size_at o j) packets = table_same (size_at o j) _ _ same ∙ sym (part_run j (size_at o j) packets w) in
          let place : owed + (taken + k - taken) ≡ owed + k = omega arith in
          rw (begins_sent k, begins_within packets j h, e, le-leb taken j (omega arith), place, size, null, octs)

  pub arrives_sent : joined (D * n) (arrives D n lost (stream_at packets taken owed) (stream_begins packets taken owed)) ≡ joined (length packets) (sent_packet D n lost packets taken owed)
  arrives_sent =
      let d : ℕ = D * n - owed in
      let e : ℕ = length packets - taken in
      let x : owed + d ≡ D * n = omega arith in
      let y : taken + e ≡ length packets = omega arith in
      let B : ℕ → List ℕ = λ k. A (owed + k) in
      let l : joined (D * n) A ≡ joined d B = rw x at (joined_shift A owed d owed_none) in
      let r : joined (length packets) S ≡ joined e (λ k. S (taken + k)) = rw y at (joined_shift S taken e sent_before) in
      l
      ∙ sym (joined_quiet B d (d + e) (omega arith) (λ k a b. arrives_past D n lost _ _ (owed + k) (omega arith)))
      ∙ joined_quiet B e (d + e) (omega arith) (λ k a b. filler_none k (omega arith))
      ∙ joined_same e B (λ k. S (taken + k)) (λ k a. packet_arrives k (omega arith))
      ∙ sym r
