-- Laws of the numbers that digits make.
use Rattle.std.specs.Prelude.{◌≡◌, refl, true, List, ℕ, zero, suc, ◌+◌, ◌*◌, ◌^◌, ◌<◌, ◌≤◌, get_or}
use Rattle.std.proofs.Math.Nat.{pow-zero, pow-le-pow_left, pow-le-pow_right}
use Rattle.std.proofs.Common.{pow-suc, suc-mul, mul-le-mul_right, add-one, arith, ltb-true}
use Rattle.numerals.specs.Numerals.{digit_of, is_digit, value_of}

pub value_none : (base : ℕ) (t : List ℕ) (at : ℕ) → value_of base t at 0 ≡ 0
unfolding value_of
value_none base t at = refl

pub value_more : (base : ℕ) (t : List ℕ) (at n : ℕ) → value_of base t at (n + 1) ≡ value_of base t at n * base + digit_of (get_or t (at + n) 0)
unfolding value_of
value_more base t at n = rw add-one

-- n digits make a number below the n-th power of their base
pub value_lt : (base : ℕ) (t : List ℕ) (at n : ℕ) → ((k : ℕ) → k < n → is_digit base (get_or t (at + k) 0) ≡ true) → value_of base t at n < base ^ n
unfolding value_of
value_lt base t at zero d = omega (arith, pow-zero base)
value_lt base t at (suc n) d =
    let v = value_of base t at n in
    let h : suc v ≤ base ^ n = value_lt base t at n (λ k l. d k (omega arith)) in
    omega (arith, mul-le-mul_right base h, suc-mul v base, pow-suc base n, ltb-true (digit_of (get_or t (at + n) 0)) base (d n (omega arith)))

-- ten digits take at most 40 bits
pub value_small : (base : ℕ) (t : List ℕ) (at n : ℕ) → base ≤ 16 → n ≤ 10 → ((k : ℕ) → k < n → is_digit base (get_or t (at + k) 0) ≡ true)
    → value_of base t at n < 1099511627776
value_small base t at n s f d =
    let b = pow-le-pow_left s n in
    let m = pow-le-pow_right {n = 16} (omega arith) {i = n} {j = 10} f in
    omega (arith, value_lt base t at n d, b, m)
