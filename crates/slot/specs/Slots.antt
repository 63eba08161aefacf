-- A coded slot (document 01, "Rates and slot" and "Checks in the slot"), for R rows, a parity table t, the tap mask and
-- the register before the slot: a codeword of header and data with six ones behind the BCH bits.
use Rattle.std.specs.Prelude.{List, ℕ, ◌+◌, ◌-◌, ◌*◌, ◌/◌, replicate}
use Rattle.bits.specs.Octets.{bits_of}
use Rattle.dispersal.specs.Register.{after}
use Rattle.plan.specs.Sizes.{slot_octets, slot_width}
use Rattle.codeword.specs.declared.Shape.{Shape}
use Rattle.codeword.specs.Words.{word_of}

-- "header 176, data 374 × (R − 1)"
unfoldable pub message_bits : ℕ → ℕ
message_bits R = 176 + 374 * (R - 1)

-- header and data octets
unfoldable pub source_octets : ℕ → ℕ
source_octets R = message_bits R / 8

-- the bits before the parity: header, data, BCH and stuff bits
unfoldable pub covered_bits : ℕ → ℕ
covered_bits R = 374 * R

-- "stuff bits 6 (all ones)"
abbrev pub stuff_bits : List ℕ
stuff_bits = replicate 6 1

-- the sizes of a slot: "header 176, data 374 × (R − 1), BCH 192, stuff bits 6", and parity over these bits alone
abbrev pub slot_shape : ℕ → Shape
slot_shape R = record { width = slot_width; rows = R; message = message_bits R; tail = 6; before = 0; behind = 0; octets = slot_octets }

-- the slot of header and data octets: "Header and data are the message"
unfoldable pub slot_of : ℕ → List ℕ → ℕ → ℕ → List ℕ → List ℕ
slot_of R t mask r source = word_of (slot_shape R) t mask r (bits_of source) stuff_bits

-- the register after a slot: it "covers header, data, BCH and stuff bits, and stands still over parity and dummies"
unfoldable pub register_after : ℕ → ℕ → ℕ → ℕ
register_after R mask r = after slot_width mask r (covered_bits R)
