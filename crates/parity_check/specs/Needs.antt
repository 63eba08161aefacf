-- What the check asks of its arguments.
use Rattle.std.specs.Prelude.{◌≡◌, List, ℕ, length}
use Rattle.parity_table.specs.Tables.{positions}
use Rattle.ldpc.specs.Needs.{Ready}

-- what the coder asks, with a received bit for each parity bit
pub record Received (rows : ℕ) (t bits received sums : List ℕ) : Type 0 where
  pub ready : Ready rows t bits sums
  pub all : length received ≡ positions rows
