-- What the functions ask of their arguments.
use Rattle.std.specs.Prelude.{◌≡◌, List, ℕ, length}
use Rattle.codeword.specs.Needs.{Coding as CodingWord}
use Rattle.codeword.specs.Words.{run_bits}
use Rattle.tmcc.specs.Blocks.{source_octets, block_shape}

-- the octets, and an area for TMCC and BCH bits
pub record Plain (source run : List ℕ) : Type 0 where
  pub source_long : length source ≡ source_octets
  pub room : length run ≡ run_bits block_shape

-- all that coding a block is lent
pub record Coding (start : ℕ) (t source bits input block : List ℕ) : Type 0 where
  pub word : CodingWord block_shape start t bits input block
  pub source_long : length source ≡ source_octets
