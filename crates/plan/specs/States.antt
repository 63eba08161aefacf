-- The frame state (document 01, "Plan and place" and "Refusal list"): opening a frame, and passing a dummy.
use Rattle.std.specs.Prelude.{◌&&◌, ℕ, ◌+◌, eqb, leb, Result, Ok, Err}
use Rattle.lists.specs.Choice.{pick, and_then}
use Rattle.refusal.specs.Answers.{number_of}
use Rattle.refusal.specs.declared.Refusal.{Refusal}
use Rattle.refusal.specs.Numbers.{PLAN, DUMMY, FULL, REGISTER}
use Rattle.dispersal.specs.Register.{register_ok, settings_ok}
use Rattle.plan.specs.declared.Plan.{Plan}
use Rattle.plan.specs.declared.FrameState.{FrameState}
use Rattle.plan.specs.declared.Answer.{Answer}
use Rattle.plan.specs.Sizes.{slot_width}
use Rattle.plan.specs.Records.{no_plan, state_at, plan_in}
use Rattle.plan.specs.Plans.{plan_number}
use Rattle.plan.specs.Places.{carries}

-- "It begins at slot 1 with the register at its start"
abbrev pub begun : Plan → ℕ → ℕ → FrameState
begun p mask start = state_at p mask start 1 start

-- "the state of a refused opening is all zeros"
abbrev pub zeros : FrameState
zeros = state_at no_plan 0 0 0 0

-- "moves on by one", with register r
abbrev pub moved_on : FrameState → ℕ → FrameState
moved_on s r = state_at (plan_in s) s.mask s.start (s.slot + 1) r

-- the number with one state where it is 0, and another where it refuses
abbrev pub answer : ℕ → FrameState → FrameState → Answer
answer n good refused = record { number = n; state = pick (eqb n 0) good refused }

-- what a call answers, a state or a refusal, as its number and a state: by a refusal the one that goes with it
abbrev pub as_answer : FrameState → Result FrameState Refusal → Answer
as_answer refused (Ok s) = record { number = 0; state = s }
as_answer refused (Err r) = record { number = number_of r; state = refused }

-- "Opening: 1, 6", the plan's other numbers behind 1 (document 02, N1); "Its settings are mask and start of the 25-bit
-- register"
unfoldable pub open_number : Plan → ℕ → ℕ → ℕ
open_number p mask start = and_then (plan_number p) (pick (settings_ok slot_width mask start) 0 REGISTER)

unfoldable pub opened : Plan → ℕ → ℕ → Answer
opened p mask start = answer (open_number p mask start) (begun p mask start) zeros

-- "Slot calls: 1, 6 (a state handed in is tested anew; slot number 0 is 1)", the plan's other numbers behind 1: so slot
-- number 0 is tested before the plan
unfoldable pub sound_number : FrameState → ℕ
sound_number s =
    and_then (pick (eqb s.slot 0) PLAN 0)
    (and_then (plan_number (plan_in s))
    (pick (settings_ok slot_width s.mask s.start && register_ok slot_width s.register) 0 REGISTER))

-- ", 3": "After slot 120 the state is full"
unfoldable pub state_number : FrameState → ℕ
state_number s = and_then (sound_number s) (pick (leb s.slot 120) 0 FULL)

-- ", 2": "a pass at a data slot"
unfoldable pub pass_number : FrameState → ℕ
pass_number s = and_then (state_number s) (pick (carries (plan_in s) s.slot) DUMMY 0)

-- passing a dummy moves on by one, and the register stands still; a refusal changes no state handed in
unfoldable pub passed : FrameState → Answer
passed s = answer (pass_number s) (moved_on s s.register) s
