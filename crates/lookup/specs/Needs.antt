-- What the functions ask of their arguments.
use Rattle.std.specs.Prelude.{◌≡◌, List, ℕ, length}
use Rattle.plan.specs.declared.Plan.{Plan}
use Rattle.plan.specs.Plans.{plan_number}
use Rattle.lookup.specs.Lookups.{tables_of}

-- an accepted plan, and an area for its published tables
pub record Tables (p : Plan) (area : List ℕ) : Type 0 where
  pub plan : plan_number p ≡ 0
  pub long : length area ≡ length (tables_of p)
