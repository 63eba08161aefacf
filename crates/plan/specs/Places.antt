-- The place of a slot, and the runs of slots of a plan (document 01, "Plan and place").
use Rattle.std.specs.Prelude.{Bool, true, false, ℕ, ◌+◌, ◌-◌, ◌≤◌, ltb, leb}
use Rattle.lists.specs.Count.{first}
use Rattle.plan.specs.declared.Plan.{Plan}
use Rattle.plan.specs.declared.Place.{Place}
use Rattle.plan.specs.Plans.{modulation_of, rate_of, slots_before, data_slots_of}

-- the first group whose slots reach slot s
unfoldable pub group_at : Plan → ℕ → ℕ
group_at p s = first p.count (λ g. leb s (slots_before p (g + 1)))

-- whether slot s carries data: it is one of the first slots of its group; "the others, at the end of the run, are dummies"
unfoldable pub carries : Plan → ℕ → Bool
carries p s = ltb (s - 1 - slots_before p (group_at p s)) (data_slots_of p (group_at p s))

unfoldable pub place_of : Plan → ℕ → Place
place_of p s =
    record { group = group_at p s; modulation = modulation_of p (group_at p s); rate = rate_of p (group_at p s); carries = carries p s }

-- the first and the last slot of group g's data run (true) and of its dummy run (false); a run without slots ends before
-- it begins
unfoldable pub run_first : Plan → ℕ → Bool → ℕ
run_first p g true = slots_before p g + 1
run_first p g false = slots_before p g + data_slots_of p g + 1

unfoldable pub run_last : Plan → ℕ → Bool → ℕ
run_last p g true = slots_before p g + data_slots_of p g
run_last p g false = slots_before p (g + 1)

-- slot s lies in that run
pub record InRun (p : Plan) (g : ℕ) (data-run : Bool) (s : ℕ) : Type 0 where
  pub from : run_first p g data-run ≤ s
  pub to : s ≤ run_last p g data-run
