-- One turn of the loops over one place of every label.
use mathlib.Core.Path.{◌≡◌, ap, ◌∙◌}
use mathlib.Core.Logic.{⊎_elim}
use mathlib.Core.List.{List}
use Prim.Native.Nat.{ℕ, ◌+◌, ◌*◌, ◌<◌, ◌≤◌}
use native.Mathlib.Nat.{le_of_suc-le-suc, eq-or-lt_of_le, mul-suc, mul-le-mul, mul-le-mul_left}
use native.Mathlib.Numerals.{add-one}
use native.Mathlib.Omega.{arith}
use lib.ListN.{length, set, length-set}
use lib.Seq.{get_or-set_same, get_or-set_other}
use Rattle.plan.specs.Sizes.{slot_bits}
use Rattle.symbols.specs.Needs.{Put}

-- either k is n or it is below
pub last_or_below : (k n : ℕ) {C : Type 0} → k < n + 1 → (k ≡ n → C) → (k < n → C) → C
last_or_below k n h e l = ⊎_elim e l (eq-or-lt_of_le (le_of_suc-le-suc (rw (add-one n) at h)))

-- the next place of a stride
pub next_step : (step r : ℕ) → step * (r + 1) ≡ step * r + step
next_step step r = ap (λ (k : ℕ). step * k) (add-one r) ∙ mul-suc step r

-- where a column begins is a small number
pub column_small : (k s : ℕ) → k ≤ 5 → s ≤ slot_bits → k * s ≤ 5 * slot_bits
column_small k s h l = mul-le-mul h l

-- places of a stride are apart
apart : (start step r n : ℕ) → 1 ≤ step → r < n → start + step * r ≡ start + step * n → ⊥
apart start step r n l h e = omega (arith, next_step step r, mul-le-mul_left {m = r + 1} {n = n} step (omega arith))

-- one value more
pub put_more : (n : ℕ) (f : ℕ → ℕ) (start step : ℕ) (found left : List ℕ) → 1 ≤ step → start + step * n < length found → Put n f start step found left
    → (at v : ℕ) → at ≡ start + step * n → v ≡ f n → Put (n + 1) f start step found (set left at v)
put_more n f start step found left l h p at v e d =
    let q : at < length left = omega (arith, p.long) in
    record {
      long = length-set left at v ∙ p.long;
      there =
          λ r k.
          last_or_below r n k
          (λ (w : r ≡ n). rw (w, ← e) (get_or-set_same left at v 0 q ∙ d))
          (λ (w : r < n). get_or-set_other left at (start + step * r) v 0 (λ x. apart start step r n l w (x ∙ e)) ∙ p.there r w);
      others = λ j k. get_or-set_other left at j v 0 (λ x. k n (omega arith) (x ∙ e)) ∙ p.others j (λ r w. k r (omega arith));
    }
