-- Laws of stepping: the position stepped to is document 01's, and in the columns it is the place behind.
use Rattle.std.specs.Prelude.{◌≡◌, Bool}
use Rattle.std.proofs.Math.Path.{sym, ap}
use Rattle.std.proofs.Common.{◌∙◌, mod-lt, mod-eq_of_lt, div-lt_iff_lt-mul, mul-add, mul-le-mul_left, arith, le-leb}
use Prim.Native.Nat.{ℕ, zero, suc, ◌+◌, ◌*◌, ◌-◌, ◌%◌, ◌/◌, ◌<◌, ◌≤◌}
use Rattle.std.proofs.Math.Nat.{mul-add-mod_self_left, div-add-mod}
use Rattle.std.proofs.Math.Decide.{dec_lt}
use Rattle.std.proofs.lemmas.Bool.{lt-leb}
use Rattle.lists.specs.Choice.{pick}
use Rattle.ldpc.specs.Stepping.{step_on, stepped}

-- a step, by whether M is reached
step_on_reached : (q m p : ℕ) → m ≤ p + q → step_on q m p ≡ p + q - m
step_on_reached q m p h = ap (λ (t : Bool). pick t (p + q - m) (p + q)) (le-leb m (p + q) h)

step_on_less : (q m p : ℕ) → p + q < m → step_on q m p ≡ p + q
step_on_less q m p h = ap (λ (t : Bool). pick t (p + q - m) (p + q)) (lt-leb m (p + q) h)

-- a step by no more than m is a remainder
step_on_mod : (q m p : ℕ) → q ≤ m → p < m → step_on q m p ≡ (p + q) % m
step_on_mod q m p l h = go (dec_lt (p + q) m)
  where
    go : Dec (p + q < m) → step_on q m p ≡ (p + q) % m
    go (yes k) = step_on_less q m p k ∙ sym (mod-eq_of_lt k)
    go (no k) =
        let e : p + q ≡ m * 1 + (p + q - m) = omega arith in
        let b : p + q - m < m = omega arith in
        step_on_reached q m p (omega arith)
        ∙ sym (ap (λ (n : ℕ). n % m) e ∙ mul-add-mod_self_left m 1 (p + q - m) ∙ mod-eq_of_lt b)

-- "(address + m × q) mod M": what n steps from a position come to
pub stepped_mod : (q m a : ℕ) → q ≤ m → a < m → (n : ℕ) → stepped q m a n ≡ (a + n * q) % m
unfolding stepped
stepped_mod q m a l h zero = let e : a + zero * q ≡ a = omega arith in rw e (sym (mod-eq_of_lt h))
stepped_mod q m a l h (suc n) =
    let z : 0 < m = omega arith in
    let x : ℕ = a + n * q in
    let e : a + suc n * q ≡ m * (x / m) + (x % m + q) = omega (arith, div-add-mod x m) in
    ap (step_on q m) (stepped_mod q m a l h n)
    ∙ step_on_mod q m (x % m) l (mod-lt x z)
    ∙ sym (ap (λ (k : ℕ). k % m) e ∙ mul-add-mod_self_left m (x / m) (x % m + q))

-- where the bits of a row go through an address
module _ (q a : ℕ) (z : 0 < q) (h : a < 374 * q) where
  pub turn_below : a / q < 374
  turn_below = (div-lt_iff_lt-mul z).1 h

  -- a step from place j of a column: to the place behind it, and to the first after the last
  column_step : (j : ℕ) → j < 374 → step_on q (374 * q) (q * j + a % q) ≡ q * step_on 1 374 j + a % q
  column_step j l = go (dec_lt (j + 1) 374)
    where
      go : Dec (j + 1 < 374) → step_on q (374 * q) (q * j + a % q) ≡ q * step_on 1 374 j + a % q
      go (yes k) =
          let b : j + 2 ≤ 374 = omega arith in
          let l₂ : q * j + a % q + q < 374 * q = omega (arith, mod-lt a z, mul-le-mul_left q b, mul-add q j 2) in
          rw (step_on_less q (374 * q) (q * j + a % q) l₂, step_on_less 1 374 j k) (omega (arith, mul-add q j 1))
      go (no k) =
          let e : j ≡ 373 = omega arith in
          rw (e, step_on_reached q (374 * q) (q * 373 + a % q) (omega arith)) (omega arith)

  -- the position stepped to stands as many places on in the column of the address
  pub stepped_column : (n : ℕ) → stepped q (374 * q) a n ≡ q * stepped 1 374 (a / q) n + a % q
  unfolding stepped
  stepped_column zero = sym (div-add-mod a q)
  stepped_column (suc n) =
      let b : stepped 1 374 (a / q) n < 374 = rw (stepped_mod 1 374 (a / q) (omega arith) turn_below n) (omega arith) in
      ap (step_on q (374 * q)) (stepped_column n) ∙ column_step (stepped 1 374 (a / q) n) b
