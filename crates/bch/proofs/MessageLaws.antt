-- Laws of messages: a run of bits as a polynomial, and its remainder.
use Rattle.std.specs.Prelude.{◌≡◌, refl, List, [], ◌∷◌, ◌++◌, ℕ, zero, suc, ◌+◌, ◌*◌, ◌/◌, ◌%◌, ◌^◌, ◌<◌, ◌≤◌, length, get_or, replicate}
use Rattle.std.proofs.Common.{sym, ap, ap₂, ◌∙◌, append-nil, zero-mul, mul_right_comm, arith, length-append, shl_lt, drop_at}
use Rattle.std.proofs.Math.Seq.{take-length}
use Rattle.lists.specs.Runs.{Bits}
use Rattle.lists.specs.RunLaws.{below_append}
use Rattle.bits.specs.Digits.{digits, number}
use Rattle.bits.specs.DigitLaws.{length_digits, number_lt, number_append, number_of_digits, digits_number}
use Rattle.bits.specs.Sums.{added}
use Rattle.bits.specs.SumLaws.{length_added, get_or_added, added_append}
use Rattle.bits.specs.DigitParts.{number_add, number_zeros}
use Rattle.bch.specs.Polynomials.{◌⊕◌, polynomial_of}
use Rattle.bch.proofs.PolynomialLaws.{padd_none, padd_lt, padd_high, padd_last, padd_bits, padd_block, padd_shifted, padd_power}
use Rattle.bch.specs.Division.{remainder, IsRemainder, remainder_of}
use Rattle.bch.proofs.DivisionLaws.{Congruent, same_congruent, congruent, congruent_padd, congruent_power, congruent_then, remainder_is, remainder_only, remainder_across}

pub polynomial_of_lt : (u : List ℕ) → Bits u → polynomial_of u < 2 ^ length u
unfolding polynomial_of
polynomial_of_lt u z = number_lt (length u) u z

pub polynomial_of_digits : (n x : ℕ) → x < 2 ^ n → polynomial_of (digits n x) ≡ x
unfolding polynomial_of
polynomial_of_digits n x h = rw (length_digits n x) (ap (number n) (sym (append-nil (digits n x))) ∙ number_of_digits n x [] h)

pub digits_polynomial_of : (u : List ℕ) → Bits u → digits (length u) (polynomial_of u) ≡ u
unfolding polynomial_of
digits_polynomial_of u z = digits_number (length u) u (omega arith) z ∙ take-length u

-- bits of one length are equal where their polynomials are
pub polynomial_of_one : (u v : List ℕ) → length u ≡ length v → Bits u → Bits v → polynomial_of u ≡ polynomial_of v → u ≡ v
polynomial_of_one u v l y z e = sym (digits_polynomial_of u y) ∙ rw (l, e) (digits_polynomial_of v z)

pub polynomial_of_append : (u v : List ℕ) → polynomial_of (u ++ v) ≡ polynomial_of u * 2 ^ length v + polynomial_of v
unfolding polynomial_of
polynomial_of_append u v =
    rw (length-append u v, number_add (length u) (length v) (u ++ v), drop_at u v (length u) refl, number_append (length u) u v (omega arith))

pub polynomial_of_zeros : (n : ℕ) → polynomial_of (replicate n 0) ≡ 0
unfolding polynomial_of
polynomial_of_zeros n = number_zeros (length (replicate n 0)) n

-- zeros in front change nothing
pub polynomial_of_front : (n : ℕ) (u : List ℕ) → polynomial_of (replicate n 0 ++ u) ≡ polynomial_of u
polynomial_of_front n u = polynomial_of_append (replicate n 0) u ∙ rw (polynomial_of_zeros n, zero-mul) (omega arith)

number_added : (n : ℕ) (u v : List ℕ) → n ≤ length u → Bits u → Bits v → number n (added u v) ≡ number n u ⊕ number n v
unfolding number
number_added zero u v h y z = sym (padd_none 0)
number_added (suc n) u v h y z =
    ap₂ (λ (s t : ℕ). s * 2 + t) (number_added n u v (omega arith) y z) (get_or_added u v n h ∙ sym (padd_bits (get_or u n 0) (get_or v n 0) (y n) (z n)))
    ∙ sym (padd_block 1 (number n u) (number n v) (get_or u n 0) (get_or v n 0) (y n) (z n))

pub polynomial_of_added : (u v : List ℕ) → length u ≡ length v → Bits u → Bits v → polynomial_of (added u v) ≡ polynomial_of u ⊕ polynomial_of v
unfolding polynomial_of
polynomial_of_added u v l y z = rw (length_added u v, ← l) (number_added (length u) u v (omega arith) y z)

-- the digits of a sum
pub digits_padd : (n a b : ℕ) → digits n (a ⊕ b) ≡ added (digits n a) (digits n b)
unfolding digits added
digits_padd zero a b = refl
digits_padd (suc n) a b =
    ap₂ (λ (s : List ℕ) (t : ℕ). s ++ (t ∷ [])) (ap (digits n) (padd_high 1 a b) ∙ digits_padd n (a / 2) (b / 2)) (padd_last a b ∙ omega arith)
    ∙ sym (added_append (digits n (a / 2)) (a % 2 ∷ []) (digits n (b / 2)) (b % 2 ∷ []) (length_digits n (a / 2) ∙ sym (length_digits n (b / 2))))

-- the message times the power n has no term from the power n + length on
message_lt : (n : ℕ) (m : List ℕ) → Bits m → polynomial_of m * 2 ^ n < 2 ^ (n + length m)
message_lt n m z = let e : n + length m ≡ length m + n = omega arith in rw e (shl_lt (length m) n (polynomial_of_lt m z))

-- division by a g of degree n
module _ (n g : ℕ) (top : g / 2 ^ n ≡ 1) where
  pub remainder_of_is : (m : List ℕ) → Bits m → IsRemainder n g (polynomial_of m * 2 ^ n) (remainder_of n g m)
  unfolding remainder_of
  remainder_of_is m z = remainder_is n g top (length m) (polynomial_of m * 2 ^ n) (message_lt n m z)

  -- the polynomial alone decides
  pub remainder_of_same : (m : List ℕ) {d r : ℕ} → Bits m → polynomial_of m ≡ d → IsRemainder n g (d * 2 ^ n) r → remainder_of n g m ≡ r
  remainder_of_same m z e i = remainder_only n g top (rw e at (remainder_of_is m z)) i

  -- a run v behind the message
  pub remainder_of_append : (u v : List ℕ) → Bits u → Bits v
      → remainder_of n g (u ++ v) ≡ remainder n g (length v) (remainder_of n g u * 2 ^ length v ⊕ polynomial_of v * 2 ^ n)
  remainder_of_append u v y z =
      let k = length v in
      let i = remainder_of_is u y in
      let d = remainder_of n g u * 2 ^ k ⊕ polynomial_of v * 2 ^ n in
      let l : d < 2 ^ (n + k) = padd_lt (n + k) _ _ (shl_lt n k i.small) (message_lt n v z) in
      let e : (polynomial_of u * 2 ^ k + polynomial_of v) * 2 ^ n ≡ polynomial_of u * 2 ^ n * 2 ^ k ⊕ polynomial_of v * 2 ^ n
      = rw (← padd_shifted k (polynomial_of u) (polynomial_of v) (polynomial_of_lt v z), padd_power n) (ap (λ (x : ℕ). x ⊕ polynomial_of v * 2 ^ n) (mul_right_comm (polynomial_of u) (2 ^ k) (2 ^ n))) in
      let c : Congruent g ((polynomial_of u * 2 ^ k + polynomial_of v) * 2 ^ n) d
      = congruent_then (same_congruent g e) (congruent_padd (congruent_power k (congruent i)) (same_congruent g refl)) in
      remainder_of_same (u ++ v) (below_append 1 u v y z) (polynomial_of_append u v) (remainder_across c (remainder_is n g top k d l))

-- of no message
pub remainder_of_none : (n g : ℕ) → remainder_of n g [] ≡ 0
unfolding remainder_of remainder polynomial_of number
remainder_of_none n g = zero-mul (2 ^ n)
