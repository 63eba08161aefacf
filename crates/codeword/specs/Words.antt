-- A coded word: what document 01's "Rates and slot", "Checks in the slot" and "TMCC block" have in common, for the sizes
-- F, a parity table t, the tap mask and the register before the word. The message is m and the tail is e.
use Rattle.std.specs.Prelude.{List, ◌++◌, ℕ, ◌+◌, replicate}
use Rattle.bits.specs.Octets.{octets_of}
use Rattle.dispersal.specs.Dispersal.{dispersed}
use Rattle.dispersal.specs.Register.{after}
use Rattle.bch.specs.Bch.{bch_bits}
use Rattle.ldpc.specs.Parity.{parity_of}
use Rattle.codeword.specs.declared.Shape.{Shape}

-- the bits before the parity: message, BCH bits and tail
abbrev pub run_bits : Shape → ℕ
run_bits F = F.message + (192 + F.tail)

-- "Header and data are the message": message, BCH bits and tail
unfoldable pub plain : List ℕ → List ℕ → List ℕ
plain m e = m ++ (bch_bits m ++ e)

-- dispersal "covers header, data, BCH and stuff bits"; "Only TMCC and BCH bits are dispersed"
unfoldable pub sent : Shape → ℕ → ℕ → List ℕ → List ℕ → List ℕ
sent F mask r m e = dispersed F.width mask r (plain m e)

-- "1,870 zeros", "11,330 zeros"; a slot has none
unfoldable pub zeros : ℕ → List ℕ
zeros n = replicate n 0

-- the bits that parity is computed over: a slot's first 374 × R; "1,870 zeros, the 9,422 bits, their 192 BCH bits, 11,330
-- zeros"
unfoldable pub parity_input : Shape → List ℕ → List ℕ
parity_input F d = zeros F.before ++ (d ++ zeros F.behind)

-- "Parity: computed over the dispersed bits"; "Sent: those 9,614 bits, dispersed, and 22,066 parity bits"
unfoldable pub with_parity : Shape → List ℕ → List ℕ → List ℕ
with_parity F t d = d ++ parity_of F.rows t (parity_input F d)

-- the octets of the word
unfoldable pub word_of : Shape → List ℕ → ℕ → ℕ → List ℕ → List ℕ → List ℕ
word_of F t mask r m e = octets_of F.octets (with_parity F t (sent F mask r m e))

-- the register after it: it "stands still over parity"
unfoldable pub register_after : Shape → ℕ → ℕ → ℕ
register_after F mask r = after F.width mask r (run_bits F)
