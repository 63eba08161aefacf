-- Numbers in octets (document 02, N4: "All numbers big-endian"), and the sum of octets.
use Rattle.std.specs.Prelude.{Bool, List, ℕ, ◌*◌, ◌%◌, eqb, length, get_or}
use Rattle.lists.specs.Count.{sum, every}
use Rattle.bits.specs.Digits.{digits, number}
use Rattle.bits.specs.Octets.{bits_of, octets_of}

-- the n octets of a number
unfoldable pub big_endian : ℕ → ℕ → List ℕ
big_endian n x = octets_of n (digits (8 * n) x)

-- the number of n octets
unfoldable pub number_of : ℕ → List ℕ → ℕ
number_of n octets = number (8 * n) (bits_of octets)

-- "the sum of the 510 before them modulo 65536": of as many as there are
unfoldable pub sum_of : List ℕ → ℕ
sum_of octets = sum (length octets) (λ k. get_or octets k 0) % 65536

-- whether all are zeros
unfoldable pub all_zero : List ℕ → Bool
all_zero octets = every (length octets) (λ k. eqb (get_or octets k 0) 0)
