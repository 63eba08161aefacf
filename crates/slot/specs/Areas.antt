-- The areas that reading a slot is lent, for its bits, its parity input and its sums at any rate, and the parts of them
-- that a codeword of the slot's rate takes.
use Rattle.std.specs.Prelude.{◌≡◌, true, List, ℕ, length}
use Rattle.parity_table.specs.Tables.{table_ok}
use Rattle.plan.specs.Needs.{Rows}
use Rattle.plan.specs.Sizes.{slot_bits, slot_octets, most_parity}

-- a slot's octets and an accepted table, and areas for its bits, its parity input and its sums at any rate
pub record Checked (R : ℕ) (t coded bits input sums : List ℕ) : Type 0 where
  pub rate : Rows R
  pub table : table_ok R t ≡ true
  pub whole : length coded ≡ slot_octets
  pub bits_long : length bits ≡ slot_bits
  pub input_long : length input ≡ slot_bits
  pub sums_long : length sums ≡ most_parity
