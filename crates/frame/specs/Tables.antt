-- The parity tables of a whole frame (document 01, "Checks in the slot"): "In a whole-frame call the groups' tables follow
-- each other in group order".
use Rattle.std.specs.Prelude.{Bool, ◌&&◌, List, ℕ, zero, suc, ◌+◌, eqb, length, drop}
use Rattle.lists.specs.Count.{every}
use Rattle.lists.specs.Parts.{part}
use Rattle.parity_table.specs.Tables.{table_ok, table_length}
use Rattle.plan.specs.declared.Plan.{Plan}
use Rattle.plan.specs.Rates.{rows_of}
use Rattle.plan.specs.Plans.{rate_of}

-- where the table of group g begins: behind the one before it
unfoldable pub table_from : Plan → List ℕ → ℕ → ℕ
table_from p ts zero = 0
table_from p ts (suc g) = table_from p ts g + table_length (rows_of (rate_of p g)) (drop (table_from p ts g) ts)

-- the table of group g
unfoldable pub table_of : Plan → List ℕ → ℕ → List ℕ
table_of p ts g = part (table_from p ts g) (table_from p ts (g + 1)) ts

-- refusal 5: each group has an accepted table, and nothing follows
unfoldable pub tables_ok : Plan → List ℕ → Bool
tables_ok p ts = every p.count (λ g. table_ok (rows_of (rate_of p g)) (table_of p ts g)) && eqb (table_from p ts p.count) (length ts)
