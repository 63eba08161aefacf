-- Laws of division: what a g divides, congruence, and the one remainder.
use Rattle.std.specs.Prelude.{◌≡◌, refl, ◌↔◌}
use Rattle.std.proofs.Math.Path.{sym, ap₂, subst}
use Rattle.std.proofs.Common.{ap, ◌∙◌, add_comm, mul-one, one-mul, zero-mul, mod-eq_of_lt, div-lt_iff_lt-mul, pow_pos, shr_lt}
use Prim.Native.Nat.{ℕ, zero, suc, ◌+◌, ◌*◌, ◌/◌, ◌%◌, ◌^◌, ◌<◌}
use Rattle.std.proofs.Math.Nat.{add-zero, zero-div, div-eq_of_lt}
use native.Mathlib.Omega.{arith}
use Rattle.std.proofs.Math.Arith.{bin_ind}
use Rattle.std.proofs.Math.Pow.{shr-shr}
use Rattle.std.proofs.lemmas.Nat.{shl-shr}
use Rattle.bch.specs.Polynomials.{◌⊕◌, ◌⊗◌, coefficient, Divides}
use Rattle.bch.proofs.PolynomialLaws.{padd_none, padd_zero, padd_self, padd_comm, padd_lt, padd_high, padd_power, padd_last, padd_assoc, padd_swap, padd_across, padd_equal, pmul_none, pmul_step, pmul_bit, pmul_padd, pmul_power, power_more}
use Rattle.bch.specs.Division.{remainder, IsRemainder}

-- document 01: "a difference of zero is divisible"
pub divides_zero : (g : ℕ) → Divides g 0
unfolding Divides
divides_zero g = (0, pmul_none g)

pub divides_self : (g : ℕ) → Divides g g
unfolding Divides
divides_self g = (1, pmul_bit 1 g (omega arith) ∙ one-mul g)

pub divides_padd : (g a b : ℕ) → Divides g a → Divides g b → Divides g (a ⊕ b)
unfolding Divides
divides_padd g a b (h, p) (k, q) = (h ⊕ k, pmul_padd g h k ∙ ap₂ ◌⊕◌ p q)

-- a multiple times the power k
pub divides_power : (g k a : ℕ) → Divides g a → Divides g (a * 2 ^ k)
unfolding Divides
divides_power g k a (h, p) = (h * 2 ^ k, pmul_power k h g ∙ ap (λ (x : ℕ). x * 2 ^ k) p)

even_quotient : (t p g : ℕ) → t < 2 → g % 2 ≡ 1 → (p * 2 ⊕ t * g) % 2 ≡ 0 → t ≡ 0
even_quotient zero p g h o e = refl
even_quotient (suc zero) p g h o e = omega (arith, padd_last (p * 2) (1 * g))
even_quotient (suc (suc t)) p g h o e = absurd (omega arith)

divides_half : (g a : ℕ) → g % 2 ≡ 1 → Divides g (a * 2) → Divides g a
unfolding Divides
divides_half g a o (h, p) =
    let s = pmul_step h g in
    let z = even_quotient (h % 2) (h / 2 ⊗ g) g (omega arith) o (ap (λ (x : ℕ). x % 2) (sym s ∙ p) ∙ omega arith) in
    let d : (h / 2 ⊗ g) * 2 ≡ a * 2 = sym (s ∙ rw (z, zero-mul, padd_zero)) ∙ p in
    (h / 2, omega arith)

-- a g with the constant term 1 divides a polynomial times a power only where it divides the polynomial
pub divides_without : (g k a : ℕ) → g % 2 ≡ 1 → Divides g (a * 2 ^ k) → Divides g a
divides_without g zero a o d = rw mul-one at d
divides_without g (suc k) a o d = divides_without g k a o (divides_half g (a * 2 ^ k) o (rw power_more at d))

-- a coefficient's multiple of g times a power
divides_term : (g k t : ℕ) → t < 2 → Divides g (t * (g * 2 ^ k))
divides_term g k zero h = rw zero-mul (divides_zero g)
divides_term g k (suc zero) h = rw one-mul (divides_power g k g (divides_self g))
divides_term g k (suc (suc t)) h = absurd (omega arith)

-- a and b differ by a multiple of g
pub record Congruent (g a b : ℕ) : Type 0 where
  pub by : Divides g (a ⊕ b)

pub same_congruent : (g : ℕ) {a b : ℕ} → a ≡ b → Congruent g a b
same_congruent g {a} {b} e = record { by = rw (e, padd_self) (divides_zero g) }

pub congruent_sym : {g a b : ℕ} → Congruent g a b → Congruent g b a
congruent_sym {g} {a} {b} c = record { by = rw padd_comm c.by }

pub congruent_then : {g a b c : ℕ} → Congruent g a b → Congruent g b c → Congruent g a c
congruent_then {g} {a} {b} {c} p q = record { by = rw padd_across at (divides_padd g (a ⊕ b) (b ⊕ c) p.by q.by) }

pub congruent_padd : {g a b c d : ℕ} → Congruent g a b → Congruent g c d → Congruent g (a ⊕ c) (b ⊕ d)
congruent_padd {g} {a} {b} {c} {d} p q = record { by = rw (padd_swap a b c d) at (divides_padd g (a ⊕ b) (c ⊕ d) p.by q.by) }

pub congruent_power : (k : ℕ) {g a b : ℕ} → Congruent g a b → Congruent g (a * 2 ^ k) (b * 2 ^ k)
congruent_power k {g} {a} {b} p = record { by = rw (padd_power k a b) at (divides_power g k (a ⊕ b) p.by) }

pub congruent : {n g d r : ℕ} → IsRemainder n g d r → Congruent g d r
congruent i = record { by = i.divides }

below : (k x : ℕ) → x / 2 ^ k ≡ 0 → x < 2 ^ k
below k x e = subst (λ (y : ℕ). x < y) (one-mul (2 ^ k)) ((div-lt_iff_lt-mul (pow_pos k)).0 (omega arith))

half_below : (k p : ℕ) → p * 2 / 2 ^ k < 2 → p < 2 ^ k
half_below k p h = let l = (div-lt_iff_lt-mul (pow_pos k)).0 h in omega arith

one_high : (k : ℕ) → 2 ^ k / 2 ^ k ≡ 1
one_high k = ap (λ (x : ℕ). x / 2 ^ k) (sym (one-mul (2 ^ k))) ∙ shl-shr 1 k

-- the term of the highest power of a coefficient's multiple
top_term : (k g t : ℕ) → g / 2 ^ k ≡ 1 → t < 2 → t * g / 2 ^ k ≡ t
top_term k g zero e h = rw zero-mul (zero-div (2 ^ k))
top_term k g (suc zero) e h = rw one-mul e
top_term k g (suc (suc t)) e h = absurd (omega arith)

-- a polynomial of a lower degree
pub remainder_small : (n g d : ℕ) → d < 2 ^ n → IsRemainder n g d d
remainder_small n g d l = record { small = l; divides = rw padd_self (divides_zero g) }

pub remainder_padd : {n g d e r s : ℕ} → IsRemainder n g d r → IsRemainder n g e s → IsRemainder n g (d ⊕ e) (r ⊕ s)
remainder_padd {n} {r = r} {s = s} i j = record { small = padd_lt n r s i.small j.small; divides = (congruent_padd (congruent i) (congruent j)).by }

-- a congruent polynomial has the same remainder
pub remainder_across : {n g d e r : ℕ} → Congruent g d e → IsRemainder n g e r → IsRemainder n g d r
remainder_across c i = record { small = i.small; divides = (congruent_then c (congruent i)).by }

-- the laws of division by a g of degree n
module _ (n g : ℕ) (top : g / 2 ^ n ≡ 1) where
  no_quotient : (h : ℕ) → (h ⊗ g) / 2 ^ n ≡ 0 → h ≡ 0
  no_quotient =
      bin_ind (λ (h : ℕ). (h ⊗ g) / 2 ^ n ≡ 0 → h ≡ 0) (λ e. refl)
      (λ h half e.
      let p = h / 2 ⊗ g in
      let t : p * 2 / 2 ^ n ≡ h % 2
      = padd_equal (ap (λ (x : ℕ). p * 2 / 2 ^ n ⊕ x) (sym (top_term n g (h % 2) top (omega arith))) ∙ sym (padd_high n (p * 2) (h % 2 * g)) ∙ rw (← pmul_step h g) e) in
      let l : p < 2 ^ n = half_below n p (omega arith) in
      let z : h / 2 ≡ 0 = half (div-eq_of_lt l) in
      let q : p * 2 / 2 ^ n ≡ 0 = rw (z, pmul_none) (zero-div (2 ^ n)) in
      omega arith)

  -- g divides nothing of a lower degree but 0
  pub divides_small : (a : ℕ) → a < 2 ^ n → Divides g a → a ≡ 0
  unfolding Divides
  divides_small a l (h, p) = sym p ∙ rw (no_quotient h (ap (λ (x : ℕ). x / 2 ^ n) p ∙ div-eq_of_lt l)) (pmul_none g)

  pub congruent_small : {a b : ℕ} → a < 2 ^ n → b < 2 ^ n → Congruent g a b → a ≡ b
  congruent_small {a} {b} h l c = padd_equal (divides_small (a ⊕ b) (padd_lt n a b h l) c.by)

  -- there is one remainder
  pub remainder_only : {d r s : ℕ} → IsRemainder n g d r → IsRemainder n g d s → r ≡ s
  remainder_only i j = congruent_small i.small j.small (congruent_then (congruent_sym (congruent i)) (congruent j))

  -- remainders are equal exactly where g divides the difference
  pub remainder_equal : {d e r s : ℕ} → IsRemainder n g d r → IsRemainder n g e s → (r ≡ s) ↔ Divides g (d ⊕ e)
  remainder_equal {d} {e} i j = (
    (λ p. (congruent_then (congruent i) (congruent_then (same_congruent g p) (congruent_sym (congruent j)))).by),
    (λ p.
        let c : Congruent g d e = record { by = p } in
        congruent_small i.small j.small (congruent_then (congruent_sym (congruent i)) (congruent_then c (congruent j)))),
  )

  -- of the power n: g without its top term
  pub remainder_top : IsRemainder n g (2 ^ n) (g ⊕ 2 ^ n)
  remainder_top =
      let s : g ⊕ 2 ^ n < 2 ^ n = below n _ (padd_high n g (2 ^ n) ∙ rw (top, one_high n) (padd_self 1)) in
      record { small = s; divides = rw (padd_comm g (2 ^ n), ← padd_assoc, padd_self, padd_none) (divides_self g) }

  term_off : (k d : ℕ) → d < 2 ^ (n + suc k) → coefficient (n + k) d * (g * 2 ^ k) ⊕ d < 2 ^ (n + k)
  unfolding coefficient
  term_off k d l =
      let t = d / 2 ^ (n + k) % 2 in
      let e : n + suc k ≡ 1 + (n + k) = omega arith in
      let q : d / 2 ^ (n + k) ≡ t = sym (mod-eq_of_lt (shr_lt 1 (n + k) (rw e at l))) in
      let p : g * 2 ^ k / 2 ^ (n + k) ≡ 1 = rw (add_comm n k, ← shr-shr (g * 2 ^ k) k n, shl-shr) top in
      below (n + k) _ (padd_high (n + k) (t * (g * 2 ^ k)) d ∙ ap₂ ◌⊕◌ (top_term (n + k) (g * 2 ^ k) t p (omega arith)) q ∙ padd_self t)

  term_congruent : (k d : ℕ) → Congruent g d (coefficient (n + k) d * (g * 2 ^ k) ⊕ d)
  unfolding coefficient
  term_congruent k d =
      let x = d / 2 ^ (n + k) % 2 * (g * 2 ^ k) in
      let c : Congruent g 0 x = record { by = rw padd_none (divides_term g k (d / 2 ^ (n + k) % 2) (omega arith)) } in
      subst (λ (a : ℕ). Congruent g a (x ⊕ d)) (padd_none d) (congruent_padd c (same_congruent g refl))

  -- long division gives it
  pub remainder_is : (k d : ℕ) → d < 2 ^ (n + k) → IsRemainder n g d (remainder n g k d)
  unfolding remainder
  remainder_is zero d l = remainder_small n g d (rw add-zero at l)
  remainder_is (suc k) d l = remainder_across (term_congruent k d) (remainder_is k _ (term_off k d l))

  pub remainder_same : (k : ℕ) {d r : ℕ} → d < 2 ^ (n + k) → IsRemainder n g d r → remainder n g k d ≡ r
  remainder_same k {d} l i = remainder_only (remainder_is k d l) i
