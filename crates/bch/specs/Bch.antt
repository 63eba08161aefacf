-- The BCH code: its generator, and the BCH bits of a message.
use Rattle.std.specs.Prelude.{List, [], ◌∷◌, map, ℕ}
use Rattle.bits.specs.Digits.{digits}
use Rattle.bch.specs.Polynomials.{with_exponents, product}
use Rattle.bch.specs.Division.{remainder_of}

-- document 002, Table 2.2.1-3: the exponents of the twelve polynomials, as printed
unfoldable pub exponents : List (List ℕ)
exponents =
    (0 ∷ 1 ∷ 3 ∷ 12 ∷ 16 ∷ [])
    ∷ (0 ∷ 2 ∷ 3 ∷ 4 ∷ 8 ∷ 9 ∷ 11 ∷ 12 ∷ 16 ∷ [])
    ∷ (0 ∷ 2 ∷ 3 ∷ 7 ∷ 9 ∷ 10 ∷ 11 ∷ 13 ∷ 16 ∷ [])
    ∷ (0 ∷ 1 ∷ 3 ∷ 6 ∷ 7 ∷ 11 ∷ 12 ∷ 13 ∷ 16 ∷ [])
    ∷ (0 ∷ 1 ∷ 2 ∷ 3 ∷ 5 ∷ 7 ∷ 8 ∷ 9 ∷ 11 ∷ 13 ∷ 16 ∷ [])
    ∷ (0 ∷ 1 ∷ 6 ∷ 7 ∷ 9 ∷ 10 ∷ 12 ∷ 13 ∷ 16 ∷ [])
    ∷ (0 ∷ 1 ∷ 2 ∷ 6 ∷ 9 ∷ 10 ∷ 11 ∷ 15 ∷ 16 ∷ [])
    ∷ (0 ∷ 1 ∷ 3 ∷ 6 ∷ 8 ∷ 9 ∷ 12 ∷ 15 ∷ 16 ∷ [])
    ∷ (0 ∷ 1 ∷ 4 ∷ 6 ∷ 8 ∷ 10 ∷ 11 ∷ 12 ∷ 13 ∷ 15 ∷ 16 ∷ [])
    ∷ (0 ∷ 1 ∷ 2 ∷ 4 ∷ 6 ∷ 8 ∷ 9 ∷ 10 ∷ 11 ∷ 15 ∷ 16 ∷ [])
    ∷ (0 ∷ 6 ∷ 8 ∷ 9 ∷ 10 ∷ 13 ∷ 14 ∷ 15 ∷ 16 ∷ [])
    ∷ (0 ∷ 1 ∷ 2 ∷ 3 ∷ 5 ∷ 6 ∷ 7 ∷ 10 ∷ 11 ∷ 15 ∷ 16 ∷ [])
    ∷ []

-- document 01: "the generator is the product of all twelve polynomials, degree 192"
unfoldable pub generator : ℕ
generator = product (map with_exponents exponents)

-- document 01: "The BCH bits are the remainder, on division by the generator, of message times the 192nd power,
-- highest power first"
unfoldable pub bch_bits : List ℕ → List ℕ
bch_bits m = digits 192 (remainder_of 192 generator m)
