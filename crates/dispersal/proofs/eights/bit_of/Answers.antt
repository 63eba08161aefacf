-- `dispersal::eights::bit_of`: what the weight leaves of the bits is 0 exactly where the bit is.
use mathlib.Core.Path.{◌≡◌, ap, ◌∙◌}
use mathlib.Core.Bool.{not}
use Prim.Native.Nat.{ℕ, zero, suc, ◌+◌, ◌-◌, ◌*◌, ◌/◌, ◌%◌, ◌^◌, ◌<◌}
use native.Mathlib.Nat.{pow-suc}
use native.Mathlib.Omega.{arith}
use lib.Bits.{bit_and, and_high}
use lib.Dec.{eqb}
use lib.Pow.{pow-add, pow_pos, shl-shr}
use borrow.Author.Tests.{eq-eqb, ne_eqb}
use mir.Val.{bool_byte}
use Rattle.dispersal.proofs.eights.bit_of.Goals as goal

-- the weight of a bit
weight : (k : ℕ) → k < 8 → 128 / 2 ^ k ≡ 2 ^ (7 - k)
weight k h =
    let e : 7 - k + k ≡ 7 = omega arith in
    ap (λ (n : ℕ). n / 2 ^ k) (rw e at (pow-add 2 (7 - k) k)) ∙ shl-shr (2 ^ (7 - k)) k

-- the bits under it
under : (x k : ℕ) → k < 8 → bit_and x (128 / 2 ^ k) ≡ x / 2 ^ (7 - k) % 2 * 2 ^ (7 - k)
under x k h =
    let j = 7 - k in
    let d : 1 + j ≡ suc j = omega arith in
    let e : 2 ^ (1 + j) - 2 ^ j ≡ 2 ^ j = rw d (omega (arith, pow-suc 2 j)) in
    ap (bit_and x) (weight k h) ∙ rw e at (and_high x 1 j)

-- whether b of a weight is there
there : (b p : ℕ) → b < 2 → 0 < p → bool_byte (not (eqb (b * p) 0)) ≡ b
there zero p h z = rw (eq-eqb (zero * p) 0 (omega arith))
there (suc zero) p h z = rw (ne_eqb (1 * p) 0 (λ e. omega arith))
there (suc (suc b)) p h z = absurd (omega arith)

pub returns : goal.returns
returns c =
    let a = c.args in
    c.from.ensures ∙ rw (under a.eight a.k c.requires) (there _ _ (omega arith) (pow_pos (7 - a.k)))
