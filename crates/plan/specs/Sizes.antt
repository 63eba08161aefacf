-- Sizes of slots and TMCC blocks (document 01, "Rates and slot", "Checks in the slot" and "TMCC block").
use Rattle.std.specs.Prelude.{ℕ}

-- "A slot is 44,880 bits (5,610 octets)"
abbrev pub slot_bits : ℕ
slot_bits = 44880

abbrev pub slot_octets : ℕ
slot_octets = 5610

-- "the register has 25 bits"
abbrev pub slot_width : ℕ
slot_width = 25

-- "LDPC parity 374 × (120 − R)" of rate 1, whose R is 41: no slot has more parity bits
abbrev pub most_parity : ℕ
most_parity = 29546

-- header and data octets of rate 11, "header 176" bits and 27 "packets of 187 octets": no slot has more
abbrev pub most_source : ℕ
most_source = 5071

-- "one lent area of 673,200 octets"
abbrev pub frame_octets : ℕ
frame_octets = 673200

-- "As symbols the block is 31,680 BPSK labels in bit order": a label for each bit
abbrev pub block_bits : ℕ
block_bits = 31680

-- "3,960 octets"
abbrev pub block_octets : ℕ
block_octets = 3960

-- "a 15-bit register of the same kind"
abbrev pub block_width : ℕ
block_width = 15
