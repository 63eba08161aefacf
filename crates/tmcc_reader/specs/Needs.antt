-- What the functions ask of their arguments.
use Rattle.std.specs.Prelude.{◌≡◌, List, ℕ, length}
use Rattle.codeword.specs.Needs.{Received, Run}
use Rattle.tmcc.specs.Blocks.{source_octets, block_shape}

-- TMCC and BCH bits, and an area for the octets
pub record Taken (run source : List ℕ) : Type 0 where
  pub here : Run block_shape run
  pub source_long : length source ≡ source_octets

-- all that reading a block is lent
pub record Readable (start : ℕ) (t block bits input sums source : List ℕ) : Type 0 where
  pub received : Received block_shape start t block bits input sums
  pub source_long : length source ≡ source_octets
