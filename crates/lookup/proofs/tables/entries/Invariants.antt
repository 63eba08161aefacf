-- `lookup::entries`: the numbers of the tables passed, none of which has more than 510.
use mathlib.Core.Path.{◌≡◌}
use Prim.Native.Nat.{ℕ, ◌*◌, ◌≤◌}
use Rattle.plan.specs.declared.Plan.{Plan}
use Rattle.lookup.proofs.LookupLaws.{table_start}
use Rattle.lookup.proofs.tables.entries.Given as goal

pub record Inv (p : Plan) (sum g : ℕ) : Type 0 where
  pub few : p.count ≤ 8
  pub small : sum ≤ 510 * g
  pub sum_is : sum ≡ table_start p g

abbrev pub invariant-loop-g : goal.invariant-loop-g
invariant-loop-g l = Inv l.plan l.sum l.g
