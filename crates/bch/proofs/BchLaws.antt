-- Laws of the BCH bits, over messages of any length: they are the remainder and the only one, they are additive,
-- equal exactly where the generator divides the difference, and the cases worked by hand.
use Rattle.std.specs.Prelude.{◌≡◌, refl, List, [], ◌∷◌, ◌++◌, ◌↔◌, ℕ, ◌*◌, ◌^◌, length, replicate}
use Rattle.std.proofs.Common.{sym, ap, ◌∙◌, arith, pow_pos}
use Rattle.lists.specs.Runs.{Bits}
use Rattle.lists.specs.RunLaws.{below_append, below_replicate}
use Rattle.bits.specs.Digits.{digits, number}
use Rattle.bits.specs.DigitLaws.{length_digits, digits_bits}
use Rattle.bits.specs.Sums.{added}
use Rattle.bits.specs.SumLaws.{length_added, added_bits}
use Rattle.bits.specs.DigitParts.{digits_zero}
use Rattle.bch.specs.Polynomials.{◌⊕◌, Divides, polynomial_of}
use Rattle.bch.proofs.PolynomialLaws.{padd_shifted, padd_power}
use Rattle.bch.specs.Division.{IsRemainder, remainder_of}
use Rattle.bch.proofs.DivisionLaws.{divides_power, divides_without, remainder_equal, remainder_small, remainder_top, remainder_padd}
use Rattle.bch.proofs.MessageLaws.{polynomial_of_lt, polynomial_of_digits, polynomial_of_one, digits_polynomial_of, polynomial_of_append, polynomial_of_zeros, polynomial_of_front, polynomial_of_added, digits_padd, remainder_of_is, remainder_of_same}
use Rattle.bch.specs.Bch.{generator, bch_bits}
use Rattle.bch.proofs.GeneratorLaws.{generator_top, generator_last}

pub length_bch_bits : (m : List ℕ) → length (bch_bits m) ≡ 192
unfolding bch_bits
length_bch_bits m = length_digits 192 (remainder_of 192 generator m)

pub bch_bits_bits : (m : List ℕ) → Bits (bch_bits m)
unfolding bch_bits
bch_bits_bits m = digits_bits 192 (remainder_of 192 generator m)

-- the remainder as bits and as a polynomial
bits_polynomial : (m : List ℕ) → Bits m → polynomial_of (bch_bits m) ≡ remainder_of 192 generator m
unfolding bch_bits
bits_polynomial m z = polynomial_of_digits 192 (remainder_of 192 generator m) (remainder_of_is 192 generator generator_top m z).small

-- message times the 192nd power and the BCH bits make a multiple of the generator, and their degree is below 192
pub bch_bits_is_remainder : (m : List ℕ) → Bits m → IsRemainder 192 generator (polynomial_of m * 2 ^ 192) (polynomial_of (bch_bits m))
bch_bits_is_remainder m z = rw (bits_polynomial m z) (remainder_of_is 192 generator generator_top m z)

-- document 002, 2.2.1.4: the message with its BCH bits behind it, the codeword, is a multiple of the generator
pub bch_bits_codeword : (m : List ℕ) → Bits m → Divides generator (polynomial_of (m ++ bch_bits m))
bch_bits_codeword m z =
    let i = bch_bits_is_remainder m z in
    rw (polynomial_of_append m (bch_bits m), length_bch_bits m, ← padd_shifted 192 (polynomial_of m) (polynomial_of (bch_bits m)) i.small) i.divides

-- the remainder's number decides
bits_of : (m : List ℕ) {d r : ℕ} → Bits m → polynomial_of m ≡ d → IsRemainder 192 generator (d * 2 ^ 192) r → bch_bits m ≡ digits 192 r
unfolding bch_bits
bits_of m z e i = ap (digits 192) (remainder_of_same 192 generator generator_top m z e i)

-- no other 192 bits do
pub bch_bits_only : (m b : List ℕ) → Bits m → Bits b → length b ≡ 192 → Divides generator (polynomial_of m * 2 ^ 192 ⊕ polynomial_of b) → bch_bits m ≡ b
bch_bits_only m b z y l d =
    let i : IsRemainder 192 generator (polynomial_of m * 2 ^ 192) (polynomial_of b) = record { small = rw l at (polynomial_of_lt b y); divides = d } in
    bits_of m z refl i ∙ ap (λ (k : ℕ). digits k (polynomial_of b)) (sym l) ∙ digits_polynomial_of b y

-- additive
pub bch_bits_added : (u v : List ℕ) → length u ≡ length v → Bits u → Bits v → bch_bits (added u v) ≡ added (bch_bits u) (bch_bits v)
unfolding bch_bits
bch_bits_added u v l y z =
    let r = remainder_of_is 192 generator generator_top in
    bits_of (added u v) (added_bits u v) (polynomial_of_added u v l y z) (rw (padd_power 192 (polynomial_of u) (polynomial_of v)) (remainder_padd (r u y) (r v z)))
    ∙ digits_padd 192 (remainder_of 192 generator u) (remainder_of 192 generator v)

-- document 01, "What demand 3 compares": three messages added
pub bch_bits_three : (u v w : List ℕ) → length u ≡ length v → length u ≡ length w → Bits u → Bits v → Bits w
    → bch_bits (added (added u v) w) ≡ added (added (bch_bits u) (bch_bits v)) (bch_bits w)
bch_bits_three u v w k l x y z =
    bch_bits_added (added u v) w (length_added u v ∙ l) (added_bits u v) z ∙ ap (λ (b : List ℕ). added b (bch_bits w)) (bch_bits_added u v k x y)

-- two messages of one length have equal BCH bits exactly where the generator divides their difference
pub bch_bits_equal : (u v : List ℕ) → length u ≡ length v → Bits u → Bits v → (bch_bits u ≡ bch_bits v) ↔ Divides generator (polynomial_of (added u v))
bch_bits_equal u v l y z =
    let e = remainder_equal 192 generator generator_top (bch_bits_is_remainder u y) (bch_bits_is_remainder v z) in
    let s = padd_power 192 (polynomial_of u) (polynomial_of v) in
    let n = length_bch_bits u ∙ sym (length_bch_bits v) in
    rw (polynomial_of_added u v l y z) (
      (λ p. divides_without generator 192 _ generator_last (rw s (e.0 (ap polynomial_of p)))),
      (λ d. polynomial_of_one (bch_bits u) (bch_bits v) n (bch_bits_bits u) (bch_bits_bits v) (e.1 (rw s at (divides_power generator 192 _ d)))),
    )

-- zeros in front of a message change nothing
pub bch_bits_front : (n : ℕ) (m : List ℕ) → Bits m → bch_bits (replicate n 0 ++ m) ≡ bch_bits m
unfolding bch_bits
bch_bits_front n m z =
    bits_of (replicate n 0 ++ m) (below_append 1 (replicate n 0) m (below_replicate 1 n 0 (omega arith)) z) (polynomial_of_front n m) (remainder_of_is 192 generator generator_top m z)

-- document 01, "Worked by hand": the zero message
pub bch_bits_zero : (n : ℕ) → bch_bits (replicate n 0) ≡ replicate 192 0
bch_bits_zero n =
    bits_of (replicate n 0) (below_replicate 1 n 0 (omega arith)) (polynomial_of_zeros n) (remainder_small 192 generator 0 (pow_pos 192)) ∙ digits_zero 192

one_bits : Bits (1 ∷ [])
one_bits = below_replicate 1 1 1 (omega arith)

one_polynomial : polynomial_of (1 ∷ []) ≡ 1
unfolding polynomial_of number
one_polynomial = refl

-- document 01, "Worked by hand": only the last message bit set, the generator without its top term
pub bch_bits_last : (n : ℕ) → bch_bits (replicate n 0 ++ (1 ∷ [])) ≡ digits 192 (generator ⊕ 2 ^ 192)
bch_bits_last n =
    bch_bits_front n (1 ∷ []) one_bits ∙ bits_of (1 ∷ []) one_bits one_polynomial (remainder_top 192 generator generator_top)
