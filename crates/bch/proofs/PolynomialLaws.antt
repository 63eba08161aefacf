-- Laws of the sum and the product of polynomials over GF(2).
use Rattle.std.specs.Prelude.{◌≡◌, refl, ℕ, zero, suc, ◌+◌, ◌*◌, ◌/◌, ◌%◌, ◌^◌, ◌≤◌, ◌<◌}
use Rattle.std.proofs.Common.{sym, ap, ap₂, ◌∙◌, not-suc-le-zero, le_refl, add-zero, zero-mul, mul-one, mul_assoc, pow-suc, arith, pow_pos}
use Rattle.std.proofs.Math.Decide.{le_ind}
use Rattle.std.proofs.Math.Arith.{bin_ind, half_le}
use Rattle.std.specs.Int.Bits.{xor_zero_r, xor_self, xor_shifted}
use Rattle.std.proofs.lemmas.Nat.{xor_comm, xor_block, xor_shr, xor_mod, xor_lt}
use Rattle.bch.specs.Polynomials.{◌⊕◌, ◌⊗◌, low_times}

pub padd_none : (a : ℕ) → 0 ⊕ a ≡ a
unfolding ◌⊕◌
padd_none a = refl

pub padd_zero : (a : ℕ) → a ⊕ 0 ≡ a
unfolding ◌⊕◌
padd_zero a = xor_zero_r a

pub padd_self : (a : ℕ) → a ⊕ a ≡ 0
unfolding ◌⊕◌
padd_self a = xor_self a

pub padd_comm : (a b : ℕ) → a ⊕ b ≡ b ⊕ a
unfolding ◌⊕◌
padd_comm a b = xor_comm a b

-- below the power k
pub padd_lt : (k a b : ℕ) → a < 2 ^ k → b < 2 ^ k → a ⊕ b < 2 ^ k
unfolding ◌⊕◌
padd_lt k a b h l = xor_lt k a b h l

-- the terms from the power k on
pub padd_high : (k a b : ℕ) → (a ⊕ b) / 2 ^ k ≡ a / 2 ^ k ⊕ b / 2 ^ k
unfolding ◌⊕◌
padd_high k a b = xor_shr a b k

-- the terms below the power k and the others apart
pub padd_block : (k a b r s : ℕ) → r < 2 ^ k → s < 2 ^ k → (a * 2 ^ k + r) ⊕ (b * 2 ^ k + s) ≡ (a ⊕ b) * 2 ^ k + (r ⊕ s)
unfolding ◌⊕◌
padd_block k a b r s h l = xor_block k a b r s h l

pub padd_shifted : (k a b : ℕ) → b < 2 ^ k → a * 2 ^ k ⊕ b ≡ a * 2 ^ k + b
unfolding ◌⊕◌
padd_shifted k a b h = xor_shifted a k b h

-- times the power k
pub padd_power : (k a b : ℕ) → (a ⊕ b) * 2 ^ k ≡ a * 2 ^ k ⊕ b * 2 ^ k
padd_power k a b =
    sym (add-zero _)
    ∙ ap (λ (x : ℕ). (a ⊕ b) * 2 ^ k + x) (sym (padd_self 0))
    ∙ sym (padd_block k a b 0 0 (pow_pos k) (pow_pos k))
    ∙ ap₂ ◌⊕◌ (add-zero _) (add-zero _)

-- of coefficients
pub padd_bits : (x y : ℕ) → x < 2 → y < 2 → x ⊕ y ≡ (x + y) % 2
unfolding ◌⊕◌
padd_bits zero zero h l = refl
padd_bits zero (suc zero) h l = refl
padd_bits (suc zero) zero h l = refl
padd_bits (suc zero) (suc zero) h l = refl
padd_bits (suc (suc x)) y h l = absurd (omega arith)
padd_bits zero (suc (suc y)) h l = absurd (omega arith)
padd_bits (suc zero) (suc (suc y)) h l = absurd (omega arith)

-- the constant term
pub padd_last : (a b : ℕ) → (a ⊕ b) % 2 ≡ (a + b) % 2
unfolding ◌⊕◌
padd_last a b = omega (arith, xor_mod a b 1, padd_bits (a % 2) (b % 2) (omega arith) (omega arith))

same_terms : {a b : ℕ} → a / 2 ≡ b / 2 → a % 2 ≡ b % 2 → a ≡ b
same_terms p q = omega arith

last_sum : (p a b c : ℕ) → p % 2 ≡ (a + b) % 2 → (p + c) % 2 ≡ (a + b + c) % 2
last_sum p a b c h = omega arith

last_three : (a b c : ℕ) → ((a ⊕ b) ⊕ c) % 2 ≡ (a + b + c) % 2
last_three a b c = padd_last (a ⊕ b) c ∙ last_sum (a ⊕ b) a b c (padd_last a b)

pub padd_assoc : (a b c : ℕ) → (a ⊕ b) ⊕ c ≡ a ⊕ (b ⊕ c)
padd_assoc =
    bin_ind (λ (a : ℕ). (b c : ℕ) → (a ⊕ b) ⊕ c ≡ a ⊕ (b ⊕ c)) (λ b c. simp padd_none)
    (λ a half b c.
    let h : (x y : ℕ) → (x ⊕ y) / 2 ≡ x / 2 ⊕ y / 2 = padd_high 1 in
    let e : a + b + c ≡ b + c + a = omega arith in
    same_terms (simp h (half (b / 2) (c / 2)))
    (last_three a b c ∙ rw (e, padd_comm a (b ⊕ c)) (sym (last_three b c a))))

pub padd_swap : (a b c d : ℕ) → (a ⊕ b) ⊕ (c ⊕ d) ≡ (a ⊕ c) ⊕ (b ⊕ d)
padd_swap a b c d =
    padd_assoc a b (c ⊕ d)
    ∙ ap (λ (x : ℕ). a ⊕ x) (sym (padd_assoc b c d) ∙ ap (λ (x : ℕ). x ⊕ d) (padd_comm b c) ∙ padd_assoc c b d)
    ∙ sym (padd_assoc a c (b ⊕ d))

-- a difference by way of b
pub padd_across : (a b c : ℕ) → (a ⊕ b) ⊕ (b ⊕ c) ≡ a ⊕ c
padd_across a b c = padd_assoc a b (b ⊕ c) ∙ rw (← padd_assoc b b c, padd_self, padd_none)

-- what differs by 0 is equal
pub padd_equal : {a b : ℕ} → a ⊕ b ≡ 0 → a ≡ b
padd_equal {a} {b} e = sym (padd_zero a) ∙ rw (← padd_self b, ← padd_assoc a b b, e) (padd_none b)

enough : (k a b : ℕ) → a ≤ k → low_times (suc k) a b ≡ low_times k a b
unfolding low_times
enough zero zero b h = refl
enough zero (suc a) b h = absurd (not-suc-le-zero h)
enough (suc k) zero b h = refl
enough (suc k) (suc a) b h = ap (λ (x : ℕ). x * 2 ⊕ suc a % 2 * b) (enough k (suc a / 2) b (half_le h))

pub pmul_none : (b : ℕ) → 0 ⊗ b ≡ 0
unfolding ◌⊗◌ low_times
pmul_none b = refl

-- by the constant term of the first factor and the others
pub pmul_step : (a b : ℕ) → a ⊗ b ≡ (a / 2 ⊗ b) * 2 ⊕ a % 2 * b
unfolding ◌⊗◌ low_times
pmul_step zero b = sym (ap (λ (x : ℕ). 0 ⊕ x) (zero-mul b) ∙ padd_none 0)
pmul_step (suc a) b =
    ap (λ (x : ℕ). x * 2 ⊕ suc a % 2 * b)
    (le_ind (λ (k : ℕ). low_times k (suc a / 2) b ≡ low_times (suc a / 2) (suc a / 2) b) refl (λ k h e. enough k (suc a / 2) b h ∙ e) a (half_le (le_refl (suc a))))

-- with a coefficient
pub pmul_bit : (t b : ℕ) → t < 2 → t ⊗ b ≡ t * b
pmul_bit t b h =
    pmul_step t b
    ∙ ap₂ (λ (x y : ℕ). (x ⊗ b) * 2 ⊕ y * b) (omega arith) (omega arith)
    ∙ ap (λ (x : ℕ). x * 2 ⊕ t * b) (pmul_none b)
    ∙ padd_none _

bits_times : (x y b : ℕ) → x < 2 → y < 2 → (x + y) % 2 * b ≡ x * b ⊕ y * b
bits_times zero y b h l = let e : (0 + y) % 2 ≡ y = omega arith in rw (e, zero-mul, padd_none)
bits_times (suc zero) zero b h l = rw (zero-mul, padd_zero)
bits_times (suc zero) (suc zero) b h l = zero-mul b ∙ sym (padd_self (1 * b))
bits_times (suc (suc x)) y b h l = absurd (omega arith)
bits_times (suc zero) (suc (suc y)) b h l = absurd (omega arith)

-- of a sum
pub pmul_padd : (b a c : ℕ) → (a ⊕ c) ⊗ b ≡ (a ⊗ b) ⊕ (c ⊗ b)
pmul_padd b =
    bin_ind (λ (a : ℕ). (c : ℕ) → (a ⊕ c) ⊗ b ≡ (a ⊗ b) ⊕ (c ⊗ b))
    (λ c. rw (padd_none, pmul_none, padd_none))
    (λ a half c.
    let p : (a ⊕ c) / 2 ⊗ b ≡ (a / 2 ⊗ b) ⊕ (c / 2 ⊗ b) = ap (λ (x : ℕ). x ⊗ b) (padd_high 1 a c) ∙ half (c / 2) in
    let q : (a ⊕ c) % 2 * b ≡ a % 2 * b ⊕ c % 2 * b
    = ap (λ (x : ℕ). x * b) (omega (arith, padd_last a c)) ∙ bits_times (a % 2) (c % 2) b (omega arith) (omega arith) in
    pmul_step (a ⊕ c) b
    ∙ ap₂ (λ (x y : ℕ). x * 2 ⊕ y) p q
    ∙ ap (λ (x : ℕ). x ⊕ (a % 2 * b ⊕ c % 2 * b)) (padd_power 1 (a / 2 ⊗ b) (c / 2 ⊗ b))
    ∙ padd_swap _ _ _ _
    ∙ sym (ap₂ ◌⊕◌ (pmul_step a b) (pmul_step c b)))

pub power_more : (a k : ℕ) → a * 2 ^ suc k ≡ a * 2 ^ k * 2
power_more a k = ap (λ (x : ℕ). a * x) (pow-suc 2 k) ∙ sym (mul_assoc a (2 ^ k) 2)

pmul_double : (a b : ℕ) → a * 2 ⊗ b ≡ (a ⊗ b) * 2
pmul_double a b =
    pmul_step (a * 2) b
    ∙ ap₂ (λ (x y : ℕ). (x ⊗ b) * 2 ⊕ y * b) (omega arith) (omega arith)
    ∙ ap (λ (x : ℕ). (a ⊗ b) * 2 ⊕ x) (zero-mul b)
    ∙ padd_zero _

-- times the power k
pub pmul_power : (k a b : ℕ) → a * 2 ^ k ⊗ b ≡ (a ⊗ b) * 2 ^ k
pmul_power zero a b = ap (λ (x : ℕ). x ⊗ b) (mul-one a) ∙ sym (mul-one _)
pmul_power (suc k) a b =
    ap (λ (x : ℕ). x ⊗ b) (power_more a k)
    ∙ pmul_double (a * 2 ^ k) b
    ∙ ap (λ (x : ℕ). x * 2) (pmul_power k a b)
    ∙ sym (power_more (a ⊗ b) k)
