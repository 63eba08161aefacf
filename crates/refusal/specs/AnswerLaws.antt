-- Laws of what a call answers: where it refuses, and where it accepts.
use Rattle.std.specs.Prelude.{◌≡◌, List, ℕ, false, eqb, Result, Ok, Err, IsOk}
use Rattle.std.proofs.Common.{refl, rules, sym, ◌∙◌, eq-eqb, ne_eqb}
use Rattle.std.proofs.lemmas.Bool.{false≢true}
use Rattle.lists.specs.Choice.{and_then}
use Rattle.refusal.specs.Answers.{Answered, number, number_of}
use Rattle.refusal.specs.declared.Refusal.{Refusal}
use Rattle.refusal.specs.declared.Refusal.TheVariants.{Plan, Dummy, Full, Length, Table, Register, Sync, Parity, Bch, Tail, Label, Value, Order, Total, Packet, Block, Coordinate}

pub refused : {A : Type 0} (n : ℕ) (right found : List A) (r : ℕ) → r ≡ n → (r ≡ 0 → ⊥) → Answered n right found r found
refused n right found r e h = record { number = e; area = rw (ne_eqb n 0 (λ z. h (e ∙ z))) }

pub accepted : {A : Type 0} (n : ℕ) (right found left : List A) → n ≡ 0 → left ≡ right → Answered n right found 0 left
accepted n right found left e d = record { number = sym e; area = rw (eq-eqb n 0 e) d }

-- no refusal has the number 0
pub refused_not_0 : (r : Refusal) → eqb (number_of r) 0 ≡ false
refused_not_0 Plan = refl
refused_not_0 Dummy = refl
refused_not_0 Full = refl
refused_not_0 Length = refl
refused_not_0 Table = refl
refused_not_0 Register = refl
refused_not_0 Sync = refl
refused_not_0 (Parity p) = refl
refused_not_0 Bch = refl
refused_not_0 Tail = refl
refused_not_0 Label = refl
refused_not_0 Value = refl
refused_not_0 Order = refl
refused_not_0 Total = refl
refused_not_0 Packet = refl
refused_not_0 Block = refl
refused_not_0 Coordinate = refl

pub refused_some : (r : Refusal) → number_of r ≡ 0 → ⊥
refused_some r e = false≢true (sym (refused_not_0 r) ∙ eq-eqb _ 0 e)

-- a call whose number is 0 answers a value
pub answers_value : {A : Type 0} (r : Result A Refusal) → number r ≡ 0 → IsOk r
answers_value (Ok x) h = search rules
answers_value (Err r) h = absurd (refused_some r h)

-- a refusal is the call's, and leaves the area
pub refused_by : {A : Type 0} (n : ℕ) (right found : List A) (r : Refusal) → number_of r ≡ n → Answered n right found (number_of r) found
refused_by n right found r e = refused n right found (number_of r) e (refused_some r)

-- what is asked behind a refusal does not count
pub refused_first : (r : Refusal) (next : ℕ) → and_then (number_of r) next ≡ number_of r
refused_first r next = rw (refused_not_0 r)
