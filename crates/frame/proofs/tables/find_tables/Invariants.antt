-- `frame::find_tables`: the tables of the groups passed are accepted, and their ends are known.
use mathlib.Core.Path.{◌≡◌}
use mathlib.Core.Bool.{true}
use mathlib.Core.List.{List}
use Prim.Native.Nat.{ℕ, ◌<◌, ◌≤◌}
use lib.ListN.{length, get_or}
use Rattle.parity_table.specs.Tables.{table_ok}
use Rattle.plan.specs.declared.Plan.{Plan}
use Rattle.plan.specs.Rates.{rows_of}
use Rattle.plan.specs.Plans.{rate_of}
use Rattle.frame.specs.Tables.{table_from, table_of}
use Rattle.frame.proofs.tables.find_tables.Given as goal

-- the groups before g
pub record Passed (p : Plan) (ts ends : List ℕ) (g at : ℕ) : Type 0 where
  pub here : g ≤ p.count
  pub at_is : at ≡ table_from p ts g
  pub within : at ≤ length ts
  pub long : length ends ≡ 9
  pub ends_are : (i : ℕ) → i ≤ g → get_or ends i 0 ≡ table_from p ts i
  pub ok : (i : ℕ) → i < g → table_ok (rows_of (rate_of p i)) (table_of p ts i) ≡ true

abbrev pub invariant-loop-g : goal.invariant-loop-g
invariant-loop-g l = Passed l.plan l.tables l.ends l.g l.at
