-- Plans and frame states, made from their parts (document 01, "Plan and place"). What else makes one uses these.
use Rattle.std.specs.Prelude.{List, ℕ, replicate}
use Rattle.plan.specs.declared.Plan.{Plan}
use Rattle.plan.specs.declared.FrameState.{FrameState}

-- "A plan is 1 to 8 groups of modulation, rate and slot count": so many groups, and a column for each of the three
abbrev pub of_columns : ℕ → List ℕ → List ℕ → List ℕ → Plan
of_columns count modulation rate slots = record { count = count; modulation = modulation; rate = rate; slots = slots }

-- the plan of no groups, which every call refuses 1 before all else
abbrev pub no_plan : Plan
no_plan = of_columns 0 (replicate 8 0) (replicate 8 0) (replicate 8 0)

-- "The frame state holds the plan, its register settings, the next slot number from 1 and the dispersal register"
abbrev pub state_at : Plan → ℕ → ℕ → ℕ → ℕ → FrameState
state_at p mask start slot register =
    record { count = p.count; modulation = p.modulation; rate = p.rate; slots = p.slots; mask = mask; start = start; slot = slot; register = register }

-- the plan that a state holds
abbrev pub plan_in : FrameState → Plan
plan_in s = of_columns s.count s.modulation s.rate s.slots
