-- `parity_table::table_length`: the rows passed are accepted, and the next begins at s.
use Rattle.std.proofs.Common.{◌≡◌, ℕ, ◌<◌, List}
use Rattle.parity_table.specs.Tables.{positions, row_start}
use Rattle.parity_table.specs.TableLaws.{Row}
use Rattle.parity_table.proofs.table_length.Given as goal

pub record Inv (rows : ℕ) (list : List ℕ) (m s r : ℕ) : Type 0 where
  pub size : m ≡ positions rows
  pub start : s ≡ row_start list r
  pub passed : (n : ℕ) → n < r → Row (positions rows) list (row_start list n)

abbrev pub invariant-loop : goal.invariant-loop
invariant-loop l = Inv l.rows l.list l.m l.s l.counter
