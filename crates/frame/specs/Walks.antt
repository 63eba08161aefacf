-- A whole frame gone through by the calls on its slots one by one, from opening (document 01, "Plan and place"): what "equals
-- the slot-by-slot calls" speaks of.
use Rattle.std.specs.Prelude.{List, ℕ, zero, suc}
use Rattle.lists.specs.Choice.{pick}
use Rattle.plan.specs.declared.Plan.{Plan}
use Rattle.plan.specs.declared.FrameState.{FrameState}
use Rattle.plan.specs.Records.{plan_in}
use Rattle.plan.specs.Places.{carries}
use Rattle.plan.specs.States.{opened, passed}
use Rattle.slot.specs.Calls.{code_answer, read_answer}
use Rattle.frame.specs.Steps.{table_at}
use Rattle.frame.specs.Frames.{slot_in, source_in}

-- "Coding or reading a data slot, or passing a dummy, moves on by one": the plan, the settings, the tables and both areas of
-- the frame, and how many slots are behind
module _ (p : Plan) (mask start : ℕ) (ts source frame : List ℕ) where
  -- the state after the first k slots were coded or passed one by one
  unfoldable pub coded_to : ℕ → FrameState
  coded_to zero = (opened p mask start).state
  coded_to (suc k) =
      pick (carries (plan_in (coded_to k)) (coded_to k).slot)
      (code_answer (coded_to k) (table_at (coded_to k) ts) (source_in p source k) (slot_in frame k)).state
      (passed (coded_to k)).state

  -- and after they were read or passed one by one
  unfoldable pub read_to : ℕ → FrameState
  read_to zero = (opened p mask start).state
  read_to (suc k) =
      pick (carries (plan_in (read_to k)) (read_to k).slot)
      (read_answer (read_to k) (table_at (read_to k) ts) (slot_in frame k) (source_in p source k)).state
      (passed (read_to k)).state
