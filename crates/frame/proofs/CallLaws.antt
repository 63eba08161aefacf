-- Laws of the whole-frame calls' numbers: what a number 0 says, and when a number is 0.
use Rattle.std.specs.Prelude.{◌≡◌, Bool, ◌&&◌, List, ℕ}
use Rattle.std.proofs.Math.Bool.{true}
use Rattle.std.proofs.Common.{arith}
use borrow.Author.Tests.{eqb-true, eq-eqb}
use Rattle.std.proofs.Math.Dec.{eqb}
use Rattle.lists.specs.Choice.{pick, and_then}
use Rattle.lists.specs.ChoiceLaws.{and_left, and_right, then_zero, not_refused}
use Rattle.refusal.specs.Numbers.{LENGTH, TABLE}
use Rattle.plan.specs.Sizes.{frame_octets}
use Rattle.plan.specs.declared.Plan.{Plan}
use Rattle.plan.specs.States.{open_number}
use Rattle.frame.specs.Tables.{tables_ok}
use Rattle.frame.specs.Frames.{source_from, whole_number, frame_number, read_frame_number}
use Rattle.frame.specs.Needs.{Lent}

-- the tests of a whole-frame call, over the one of its lengths
tested : (o : ℕ) (l t : Bool) → and_then o (and_then (pick l 0 LENGTH) (pick t 0 TABLE)) ≡ 0 → (o ≡ 0) × (l ≡ true) × (t ≡ true)
tested o l t h =
    let a = then_zero o _ h in
    let b = then_zero (pick l 0 LENGTH) _ a.1 in
    (a.0, not_refused l LENGTH (omega arith) b.0, not_refused t TABLE (omega arith) b.1)

module _ (p : Plan) (mask start : ℕ) (ts : List ℕ) (source frame : ℕ) where
  whole_lent : (each : Bool) → whole_number p mask start ts source frame each ≡ 0 → (each ≡ true) × Lent p mask start ts source frame
  unfolding whole_number
  whole_lent each h =
      let lengths = eqb source (source_from p 120) && eqb frame frame_octets in
      let a = tested (open_number p mask start) (each && lengths) (tables_ok p ts) h in
      let b = and_right each lengths a.1 in (
        and_left each lengths a.1,
        record {
          opened = a.0;
          source_long = eqb-true source (source_from p 120) (and_left (eqb source (source_from p 120)) _ b);
          frame_long = eqb-true frame frame_octets (and_right (eqb source (source_from p 120)) _ b);
          tables = a.2;
        },
      )

  whole_yes : Lent p mask start ts source frame → whole_number p mask start ts source frame true ≡ 0
  unfolding whole_number
  whole_yes l = rw (l.opened, eq-eqb source (source_from p 120) l.source_long, eq-eqb frame frame_octets l.frame_long, l.tables)

  pub frame_lent : frame_number p mask start ts source frame ≡ 0 → Lent p mask start ts source frame
  unfolding frame_number
  frame_lent h = (whole_lent true h).1

  pub frame_yes : Lent p mask start ts source frame → frame_number p mask start ts source frame ≡ 0
  unfolding frame_number
  frame_yes = whole_yes

  pub read_lent : (answers stuff positions : ℕ) → read_frame_number p mask start ts source frame answers stuff positions ≡ 0
      → (answers ≡ 120) × (stuff ≡ 120) × (positions ≡ 120) × Lent p mask start ts source frame
  unfolding read_frame_number
  read_lent answers stuff positions h =
      let a = whole_lent (eqb answers 120 && eqb stuff 120 && eqb positions 120) h in
      let b = and_left (eqb answers 120 && eqb stuff 120) _ a.0 in (
        eqb-true answers 120 (and_left (eqb answers 120) _ b),
        eqb-true stuff 120 (and_right (eqb answers 120) _ b),
        eqb-true positions 120 (and_right (eqb answers 120 && eqb stuff 120) _ a.0),
        a.1,
      )

  pub read_yes : (answers stuff positions : ℕ) → answers ≡ 120 → stuff ≡ 120 → positions ≡ 120 → Lent p mask start ts source frame
      → read_frame_number p mask start ts source frame answers stuff positions ≡ 0
  unfolding read_frame_number
  read_yes answers stuff positions e d i l = rw (eq-eqb answers 120 e, eq-eqb stuff 120 d, eq-eqb positions 120 i) (whole_yes l)
