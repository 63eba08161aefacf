-- Eight bits more: the words shifted up by an octet, and the remainder of what the shift moves out.
use mathlib.Core.Path.{◌≡◌, sym, ap, ap₂, ◌∙◌}
use Prim.Native.Nat.{ℕ, ◌+◌, ◌*◌, ◌/◌, ◌%◌, ◌^◌, ◌<◌}
use native.Mathlib.Nat.{add-mul, mul_assoc, add_assoc, add_comm}
use native.Mathlib.Omega.{arith}
use lib.Arith.{digits_lt}
use lib.Pow.{shl_lt, pow_mono}
use Rattle.bch.specs.Polynomials.{◌⊕◌}
use Rattle.bch.proofs.PolynomialLaws.{padd_comm, padd_assoc, padd_lt, padd_power, padd_block, padd_shifted}
use Rattle.bch.specs.Division.{remainder}
use Rattle.bch.proofs.DivisionLaws.{remainder_is, remainder_same, remainder_small, remainder_padd}
use Rattle.bch.specs.Bch.{generator}
use Rattle.bch.proofs.GeneratorLaws.{generator_top}
use Rattle.bch.specs.Words.{in_words}

-- a remainder r times the power w, with x of w bits behind it: h is moved out above the power n, s is left below
module _ (n g : ℕ) (top : g / 2 ^ n ≡ 1) (w r x h s : ℕ) (i : x < 2 ^ w) (j : h < 2 ^ w) (l : s < 2 ^ n) (e : r * 2 ^ w ≡ h * 2 ^ n + s) where
  moved : r * 2 ^ w ⊕ x * 2 ^ n ≡ s ⊕ (h ⊕ x) * 2 ^ n
  moved =
      rw (e, ← padd_shifted n h s l, padd_comm (h * 2 ^ n) s, padd_assoc) (ap (λ (y : ℕ). s ⊕ y) (sym (padd_power n h x)))

  pub shifted_remainder : s ⊕ remainder n g w ((h ⊕ x) * 2 ^ n) ≡ remainder n g w (r * 2 ^ w ⊕ x * 2 ^ n)
  shifted_remainder =
      let m : (h ⊕ x) * 2 ^ n < 2 ^ (n + w) = rw (add_comm n w) (shl_lt w n (padd_lt w h x j i)) in
      let p : s < 2 ^ (n + w) = omega (arith, pow_mono {i = n} {j = n + w} (omega arith)) in
      rw moved (sym (remainder_same n g top w (padd_lt (n + w) s _ p m) (remainder_padd (remainder_small n g s l) (remainder_is n g top w _ m))))

carry : (x y : ℕ) → y < 2 ^ 64 → (x * 2 ^ 64 + y) * 2 ^ 8 ≡ (x * 2 ^ 8 + y / 2 ^ 56) * 2 ^ 64 + y * 2 ^ 8 % 2 ^ 64
carry x y h = omega arith

-- one word of the shifted words
abbrev up : ℕ → ℕ → ℕ
up a b = a * 2 ^ 8 % 2 ^ 64 + b / 2 ^ 56

up_lt : (a b : ℕ) → b < 2 ^ 64 → up a b < 2 ^ 64
up_lt a b h = omega arith

-- as the code adds it up
up_padd : (a b : ℕ) → b < 2 ^ 64 → a * 2 ^ 8 % 2 ^ 64 ⊕ b / 2 ^ 56 ≡ up a b
up_padd a b h =
    let e : a * 2 ^ 8 % 2 ^ 64 ≡ a % 2 ^ 56 * 2 ^ 8 = omega arith in
    rw e (padd_shifted 8 (a % 2 ^ 56) (b / 2 ^ 56) (omega arith))

up_words : (a b c : ℕ) → a < 2 ^ 64 → b < 2 ^ 64 → c < 2 ^ 64 → in_words a b c * 2 ^ 8 ≡ a / 2 ^ 56 * 2 ^ 192 + in_words (up a b) (up b c) (c * 2 ^ 8 % 2 ^ 64)
up_words a b c h l m =
    let t : a * 2 ^ 8 ≡ a / 2 ^ 56 * 2 ^ 64 + a * 2 ^ 8 % 2 ^ 64 = omega arith in
    carry (a * 2 ^ 64 + b) c m
    ∙ ap (λ (z : ℕ). (z + c / 2 ^ 56) * 2 ^ 64 + c * 2 ^ 8 % 2 ^ 64) (carry a b l ∙ ap (λ (z : ℕ). (z + b / 2 ^ 56) * 2 ^ 64 + b * 2 ^ 8 % 2 ^ 64) t)
    ∙ regroup (a / 2 ^ 56) (a * 2 ^ 8 % 2 ^ 64) (b / 2 ^ 56) (b * 2 ^ 8 % 2 ^ 64) (c / 2 ^ 56) (c * 2 ^ 8 % 2 ^ 64)
  where
    regroup : (k s t u v w : ℕ) → ((k * 2 ^ 64 + s + t) * 2 ^ 64 + u + v) * 2 ^ 64 + w ≡ k * 2 ^ 192 + in_words (s + t) (u + v) w
    regroup k s t u v w = simp (add-mul, mul_assoc, add_assoc)

words_padd : (a b c d e f : ℕ) → b < 2 ^ 64 → c < 2 ^ 64 → e < 2 ^ 64 → f < 2 ^ 64 → in_words (a ⊕ d) (b ⊕ e) (c ⊕ f) ≡ in_words a b c ⊕ in_words d e f
words_padd a b c d e f hb hc he hf =
    sym (padd_block 64 (a * 2 ^ 64 + b) (d * 2 ^ 64 + e) c f hc hf ∙ ap (λ (z : ℕ). z * 2 ^ 64 + (c ⊕ f)) (padd_block 64 a d b e hb he))

words_lt : (a b c : ℕ) → a < 2 ^ 64 → b < 2 ^ 64 → c < 2 ^ 64 → in_words a b c < 2 ^ 192
words_lt a b c h l m = digits_lt (digits_lt h l) m

low_lt : (c : ℕ) → c * 2 ^ 8 % 2 ^ 64 < 2 ^ 64
low_lt c = omega arith

-- the words a b c shifted, with the words d e f that the table has for what is moved out and the octet x
pub advance_rule : (a b c x d e f : ℕ) → a < 2 ^ 64 → b < 2 ^ 64 → c < 2 ^ 64 → x < 2 ^ 8 → e < 2 ^ 64 → f < 2 ^ 64
    → in_words d e f ≡ remainder 192 generator 8 ((a / 2 ^ 56 ⊕ x) * 2 ^ 192)
    → in_words (a * 2 ^ 8 % 2 ^ 64 ⊕ b / 2 ^ 56 ⊕ d) (b * 2 ^ 8 % 2 ^ 64 ⊕ c / 2 ^ 56 ⊕ e) (c * 2 ^ 8 % 2 ^ 64 ⊕ f)
    ≡ remainder 192 generator 8 (in_words a b c * 2 ^ 8 ⊕ x * 2 ^ 192)
advance_rule a b c x d e f ha hb hc hx he hf r =
    let s = words_lt (up a b) (up b c) (c * 2 ^ 8 % 2 ^ 64) (up_lt a b hb) (up_lt b c hc) (low_lt c) in
    ap₂ (λ (y z : ℕ). in_words (y ⊕ d) (z ⊕ e) (c * 2 ^ 8 % 2 ^ 64 ⊕ f)) (up_padd a b hb) (up_padd b c hc)
    ∙ words_padd (up a b) (up b c) (c * 2 ^ 8 % 2 ^ 64) d e f (up_lt b c hc) (low_lt c) he hf
    ∙ ap (λ (z : ℕ). in_words (up a b) (up b c) (c * 2 ^ 8 % 2 ^ 64) ⊕ z) r
    ∙ shifted_remainder 192 generator generator_top 8 (in_words a b c) x (a / 2 ^ 56) _ hx (omega arith) s (up_words a b c ha hb hc)
