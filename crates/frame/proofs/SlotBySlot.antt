-- Laws of a whole frame and the calls on its slots one by one, from opening, dummies passed: "equals the slot-by-slot calls" (document
-- 01, "Plan and place").
use Rattle.std.specs.Prelude.{◌≡◌, refl, Bool, true, false, List, length}
use Rattle.std.proofs.Math.Path.{sym}
use Rattle.std.proofs.Common.{◌∙◌, arith, eq-eqb}
use Prim.Native.Nat.{ℕ, zero, suc, ◌+◌, ◌<◌, ◌≤◌}
use Rattle.std.proofs.Math.Numerals.{add-one}
use Rattle.lists.specs.Choice.{pick}
use Rattle.lists.specs.ChoiceLaws.{then_next}
use Rattle.plan.specs.Records.{plan_in}
use Rattle.plan.specs.declared.Plan.{Plan}
use Rattle.plan.specs.declared.FrameState.{FrameState}
use Rattle.plan.specs.Places.{carries}
use Rattle.plan.specs.States.{pass_number, passed}
use Rattle.plan.specs.Needs.{Ready}
use Rattle.plan.proofs.StateLaws.{pass_yes}
use Rattle.slot.specs.Calls.{rows_at, slot_number, code_answer, code_area, read_number, read_answer, read_area}
use Rattle.slot.proofs.CallLaws.{slot_yes}
use Rattle.frame.specs.Steps.{table_at, coded_at, answer_at, stuff_at, position_at, read_at, state_after}
use Rattle.frame.proofs.StepLaws.{coded_data, answer_data, after_data, after_dummy}
use Rattle.frame.specs.Frames.{state_before, slot_in, source_in}
use Rattle.frame.proofs.FrameLaws.{at, first_state, state_more, state_ready, data_long, length_slot_in}
use Rattle.frame.specs.Needs.{Lent}
use Rattle.frame.specs.Walks.{coded_to, read_to}

-- a slot call at a state that is ready, with the group's table and areas of the right lengths
module _ (s : FrameState) (ts source coded : List ℕ) (n : slot_number s (table_at s ts) source coded ≡ 0) (c : carries (plan_in s) s.slot ≡ true) where
  pub code_answer_law : ((code_answer s (table_at s ts) source coded).number ≡ 0) × ((code_answer s (table_at s ts) source coded).state ≡ state_after s)
  unfolding code_answer
  code_answer_law = (n, rw (eq-eqb _ 0 n) (sym (after_data s ts c)))

  pub code_area_law : code_area s (table_at s ts) source coded ≡ coded_at s ts source coded
  unfolding code_area
  code_area_law = rw (eq-eqb _ 0 n) (sym (coded_data s ts c source coded))

  read_number_law : read_number s (table_at s ts) coded source ≡ answer_at s ts coded
  unfolding read_number
  read_number_law = then_next _ _ n ∙ sym (answer_data s ts c coded)

  pub read_answer_law :
      ((read_answer s (table_at s ts) coded source).number ≡ answer_at s ts coded)
      × ((read_answer s (table_at s ts) coded source).state ≡ state_after s)
      × ((read_answer s (table_at s ts) coded source).stuff ≡ stuff_at s ts coded)
      × ((read_answer s (table_at s ts) coded source).position ≡ position_at s ts coded)
  unfolding read_answer stuff_at position_at
  read_answer_law = (read_number_law, rw (eq-eqb _ 0 n) (sym (after_data s ts c)), rw read_number_law, rw read_number_law)

  pub read_area_law : read_area s (table_at s ts) coded source ≡ read_at s ts coded source
  unfolding read_area read_at
  read_area_law = rw read_number_law

-- passing a dummy
pub pass_answer : (s : FrameState) (ts : List ℕ) → Ready s → carries (plan_in s) s.slot ≡ false → ((passed s).number ≡ 0) × ((passed s).state ≡ state_after s)
unfolding passed
pass_answer s ts r c = (pass_yes s r c, rw (eq-eqb (pass_number s) 0 (pass_yes s r c)) (sym (after_dummy s ts c)))

module _ (p : Plan) (mask start : ℕ) (ts source frame : List ℕ) where
  module _ (l : Lent p mask start ts (length source) (length frame)) where
    -- at a data slot the slot call is refused for nothing
    pub taken : (k : ℕ) → k < 120 → carries p (k + 1) ≡ true → slot_number (state_before p mask start k) (table_at (state_before p mask start k) ts) (source_in p source k) (slot_in frame k) ≡ 0
    unfolding rows_at
    taken k h c =
        let s = state_before p mask start k in
        let a = at p ts mask start l.opened l.tables k h in
        slot_yes s (table_at s ts) (source_in p source k) (slot_in frame k)
        (record {
          place = record { ready = a.ready; carries = c; rows = a.rows };
          areas = record { source_long = data_long p source l.source_long k h c; coded_long = length_slot_in frame k l.frame_long h; table = a.table };
        })

    -- one slot more
    coded_next : (k : ℕ) → k < 120 → (b : Bool) → carries p (k + 1) ≡ b
        → let s = state_before p mask start k in
        pick b (code_answer s (table_at s ts) (source_in p source k) (slot_in frame k)).state (passed s).state ≡ state_before p mask start (k + 1)
    coded_next k h true c = (code_answer_law (state_before p mask start k) ts (source_in p source k) (slot_in frame k) (taken k h c) c).1 ∙ state_more p mask start k
    coded_next k h false c = (pass_answer (state_before p mask start k) ts (state_ready p mask start l.opened k h) c).1 ∙ state_more p mask start k

    read_next : (k : ℕ) → k < 120 → (b : Bool) → carries p (k + 1) ≡ b
        → let s = state_before p mask start k in
        pick b (read_answer s (table_at s ts) (slot_in frame k) (source_in p source k)).state (passed s).state ≡ state_before p mask start (k + 1)
    read_next k h true c = (read_answer_law (state_before p mask start k) ts (source_in p source k) (slot_in frame k) (taken k h c) c).1 ∙ state_more p mask start k
    read_next k h false c = (pass_answer (state_before p mask start k) ts (state_ready p mask start l.opened k h) c).1 ∙ state_more p mask start k

    -- the states on the way are the frame's
    pub coded_to_law : (k : ℕ) → k ≤ 120 → coded_to p mask start ts source frame k ≡ state_before p mask start k
    unfolding coded_to
    coded_to_law zero h = first_state p mask start l.opened
    coded_to_law (suc k) h = rw (coded_to_law k (omega arith), ← add-one k) (coded_next k h (carries p (k + 1)) refl)

    pub read_to_law : (k : ℕ) → k ≤ 120 → read_to p mask start ts source frame k ≡ state_before p mask start k
    unfolding read_to
    read_to_law zero h = first_state p mask start l.opened
    read_to_law (suc k) h = rw (read_to_law k (omega arith), ← add-one k) (read_next k h (carries p (k + 1)) refl)
