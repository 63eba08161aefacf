-- A TMCC block, coded and read (document 01, "TMCC block"), for a rate 3 parity table t, and the mask and the start of the
-- register: a codeword of the TMCC bits with no tail, and with zeros before and behind it in the parity input.
use Rattle.std.specs.Prelude.{List, [], ◌++◌, ℕ, take, replicate}
use Rattle.bits.specs.Octets.{bits_of, octets_of}
use Rattle.plan.specs.Sizes.{block_octets, block_width}
use Rattle.codeword.specs.declared.Shape.{Shape}
use Rattle.codeword.specs.Words.{word_of}
use Rattle.codeword.specs.Reading.{taken_off, message_in}

-- "The rate 3 parity input": the 61 rows of rate 3
abbrev pub block_rows : ℕ
block_rows = 61

-- "1,178 octets hold 9,422 bits"
abbrev pub source_octets : ℕ
source_octets = 1178

abbrev pub message_bits : ℕ
message_bits = 9422

-- the sizes of a block: "The rate 3 parity input is 1,870 zeros, the 9,422 bits, their 192 BCH bits, 11,330 zeros", "There
-- are no stuff bits"
abbrev pub block_shape : Shape
block_shape = record { width = block_width; rows = block_rows; message = message_bits; tail = 0; before = 1870; behind = 11330; octets = block_octets }

-- the TMCC bits that the octets hold
unfoldable pub message_of : List ℕ → List ℕ
message_of source = take message_bits (bits_of source)

-- the block of the octets, its register "begun anew for each block"
unfoldable pub block_of : List ℕ → ℕ → ℕ → List ℕ → List ℕ
block_of t mask start source = word_of block_shape t mask start (message_of source) []

-- the octets of TMCC bits u: "the last two bits are 0"
unfoldable pub tailed : List ℕ → List ℕ
tailed u = octets_of source_octets (u ++ replicate 2 0)

-- those of a received block, whose numbers, 8 and 9, are a codeword's
unfoldable pub source_of : ℕ → ℕ → List ℕ → List ℕ
source_of mask start c = tailed (message_in block_shape (taken_off block_shape mask start c))
