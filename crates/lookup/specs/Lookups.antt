-- What a caller asks of a plan before it lends areas (document 01, "Plan and place", "Checks in the slot", "Refusal list").
use Rattle.std.specs.Prelude.{false, List, ℕ, eqb, leb, length, Result, Ok, Err}
use Rattle.lists.specs.Choice.{pick, and_then}
use Rattle.lists.specs.Count.{joined}
use Rattle.refusal.specs.Answers.{number_of}
use Rattle.refusal.specs.declared.Refusal.{Refusal}
use Rattle.refusal.specs.Numbers.{PLAN, FULL, LENGTH}
use Rattle.plan.specs.declared.Plan.{Plan}
use Rattle.plan.specs.declared.Place.{Place}
use Rattle.plan.specs.Plans.{rate_of, plan_number}
use Rattle.plan.specs.Places.{place_of}
use Rattle.published.specs.Published.{table_of}
use Rattle.frame.specs.Frames.{source_from}
use Rattle.lookup.specs.declared.Placed.{Placed}

-- "In the other area the data slots lie end to end": how many octets it has; 0 where the plan is refused
unfoldable pub source_octets : Plan → ℕ
source_octets p = pick (eqb (plan_number p) 0) (source_from p 120) 0

-- "In a whole-frame call the groups' tables follow each other in group order": those of "the eleven tables" that are printed
unfoldable pub tables_of : Plan → List ℕ
tables_of p = joined p.count (λ g. table_of (rate_of p g))

-- how many numbers they have; 0 where the plan is refused
unfoldable pub tables_entries : Plan → ℕ
tables_entries p = pick (eqb (plan_number p) 0) (length (tables_of p)) 0

-- the plan's refusal, then 4: "a lent area isn't exactly its length"
unfoldable pub tables_number : Plan → List ℕ → ℕ
tables_number p area = and_then (plan_number p) (pick (eqb (length area) (length (tables_of p))) 0 LENGTH)

-- the refusals of a state at slot s that speak of plan and slot: "slot number 0 is 1", the plan's, and 3: "slot 120 is past"
unfoldable pub place_number : Plan → ℕ → ℕ
place_number p s = and_then (pick (eqb s 0) PLAN 0) (and_then (plan_number p) (pick (leb s 120) 0 FULL))

-- "Every other number returned with a refusal is 0"
abbrev pub no_place : Place
no_place = record { group = 0; modulation = 0; rate = 0; carries = false }

-- what is answered, a place or a refusal, as number and place
abbrev pub as_placed : Result Place Refusal → Placed
as_placed (Ok p) = record { number = 0; place = p }
as_placed (Err r) = record { number = number_of r; place = no_place }

-- where slot s lies
unfoldable pub placed : Plan → ℕ → Placed
placed p s = record { number = place_number p s; place = pick (eqb (place_number p s) 0) (place_of p s) no_place }
