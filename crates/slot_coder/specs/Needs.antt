-- What the stages ask of their arguments.
use Rattle.std.specs.Prelude.{◌≡◌, true, List, ℕ, ◌^◌, ◌<◌, length}
use Rattle.parity_table.specs.Tables.{table_ok}
use Rattle.plan.specs.Needs.{Rows}
use Rattle.plan.specs.Sizes.{slot_bits, slot_octets, slot_width}
use Rattle.codeword.specs.Words.{run_bits}
use Rattle.slot.specs.Slots.{source_octets, slot_shape}

-- header and data octets, and an area for the bits before the parity
pub record Plain (R : ℕ) (source bits : List ℕ) : Type 0 where
  pub rows : Rows R
  pub source_long : length source ≡ source_octets R
  pub bits_long : length bits ≡ run_bits (slot_shape R)

-- all that coding a slot is lent: the parity input of no rate has more bits than a slot
pub record Coding (R r : ℕ) (t source bits input coded : List ℕ) : Type 0 where
  pub rows : Rows R
  pub held : r < 2 ^ slot_width
  pub table : table_ok R t ≡ true
  pub source_long : length source ≡ source_octets R
  pub bits_long : length bits ≡ slot_bits
  pub input_long : length input ≡ slot_bits
  pub coded_long : length coded ≡ slot_octets
