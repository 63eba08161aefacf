-- What the functions ask of their arguments.
use Rattle.std.specs.Prelude.{ℕ, ◌≤◌}

-- a number of rows that leaves parity positions
pub record Rows (rows : ℕ) : Type 0 where
  pub some : 1 ≤ rows
  pub few : rows ≤ 119
