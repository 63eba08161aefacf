-- Laws of the index: every bit below m * s has one row and one place in it, and every row and place one bit; document 01's
-- worked cases.
use Rattle.std.specs.Prelude.{◌≡◌, refl, Bool, true, false, [], ◌∷◌, ℕ, zero, suc, ◌+◌, ◌*◌, ◌/◌, ◌%◌, ◌<◌}
use Rattle.std.proofs.Common.{sym, ap, ◌∙◌, mul_comm, mod-lt, div-lt_iff_lt-mul, div-add-mod', zero-mul, mul-zero, arith}
use Rattle.std.proofs.Math.Arith.{digits_lt, digits_div, digits_mod}
use Rattle.lists.specs.Choice.{pick}
use Rattle.lists.specs.Count.{table}
use Rattle.plan.specs.Rates.{symbols_of}
use Rattle.plan.specs.Needs.{Between}
use Rattle.symbols.specs.Index.{in_order, right_to_left, column_of, bit_at, stride_of, row_of, place_of}

-- a column is one of m
pub column_below : (m : ℕ) (leftward : Bool) (k : ℕ) → k < m → column_of m leftward k < m
column_below m true k h = omega arith
column_below m false k h = h

-- the place of a column is found as the column of a place
pub column_twice : (m : ℕ) (leftward : Bool) (k : ℕ) → k < m → column_of m leftward (column_of m leftward k) ≡ k
column_twice m true k h = omega arith
column_twice m false k h = refl

-- a product above a number has no factor 0
positive_right : (m s j : ℕ) → j < m * s → 0 < s
positive_right m zero j h = absurd (omega (arith, mul-zero m))
positive_right m (suc s) j h = omega arith

stride_pick : (ordered : Bool) (m : ℕ) → Between 1 5 m → Between 1 5 (pick ordered m 1)
stride_pick true m h = h
stride_pick false m h = record { low = omega arith; high = omega arith }

pub stride_small : (m : ℕ) → Between 1 5 m → Between 1 5 (stride_of m)
unfolding stride_of
stride_small m = stride_pick (in_order m) m

module _ (m s : ℕ) (leftward : Bool) where
  -- the definitions with the test for bits in order as a parameter: each law goes by its two cases
  abbrev bit_by : Bool → ℕ → ℕ → ℕ
  bit_by ordered r k = pick ordered (r * m + k) (column_of m leftward k * s + r)

  abbrev row_by : Bool → ℕ → ℕ
  row_by ordered j = pick ordered (j / m) (j % s)

  abbrev place_by : Bool → ℕ → ℕ
  place_by ordered j = pick ordered (j % m) (column_of m leftward (j / s))

  below : (ordered : Bool) (r k : ℕ) → r < s → k < m → bit_by ordered r k < m * s
  below true r k h l = rw (mul_comm m s) (digits_lt h l)
  below false r k h l = digits_lt (column_below m leftward k l) h

  -- every row and place has a bit
  pub bit_below : (r k : ℕ) → r < s → k < m → bit_at m s leftward r k < m * s
  unfolding bit_at
  bit_below = below (in_order m)

  row : (ordered : Bool) (r k : ℕ) → r < s → k < m → row_by ordered (bit_by ordered r k) ≡ r
  row true r k h l = digits_div r l
  row false r k h l = digits_mod (column_of m leftward k) h

  -- it lies in that row, at that place, and nowhere else
  pub row_of_bit : (r k : ℕ) → r < s → k < m → row_of m s (bit_at m s leftward r k) ≡ r
  unfolding bit_at row_of
  row_of_bit = row (in_order m)

  place : (ordered : Bool) (r k : ℕ) → r < s → k < m → place_by ordered (bit_by ordered r k) ≡ k
  place true r k h l = digits_mod r l
  place false r k h l = ap (column_of m leftward) (digits_div (column_of m leftward k) h) ∙ column_twice m leftward k l

  pub place_of_bit : (r k : ℕ) → r < s → k < m → place_of m s leftward (bit_at m s leftward r k) ≡ k
  unfolding bit_at place_of
  place_of_bit = place (in_order m)

  -- two rows and places that have the same bit are the same
  pub bit_one : (r k i j : ℕ) → r < s → k < m → i < s → j < m → bit_at m s leftward r k ≡ bit_at m s leftward i j → (r ≡ i) × (k ≡ j)
  bit_one r k i j a b c d e = (
    sym (row_of_bit r k a b) ∙ ap (row_of m s) e ∙ row_of_bit i j c d,
    sym (place_of_bit r k a b) ∙ ap (place_of m s leftward) e ∙ place_of_bit i j c d,
  )

  row_within : (ordered : Bool) (j : ℕ) → j < m * s → row_by ordered j < s
  row_within true j h = (div-lt_iff_lt-mul (positive_right s m j (rw (mul_comm s m) h))).1 (rw (mul_comm s m) h)
  row_within false j h = mod-lt j (positive_right m s j h)

  pub row_below : (j : ℕ) → j < m * s → row_of m s j < s
  unfolding row_of
  row_below = row_within (in_order m)

  place_within : (ordered : Bool) (j : ℕ) → j < m * s → place_by ordered j < m
  place_within true j h = mod-lt j (positive_right s m j (rw (mul_comm s m) h))
  place_within false j h = column_below m leftward (j / s) ((div-lt_iff_lt-mul (positive_right m s j h)).1 h)

  pub place_below : (j : ℕ) → j < m * s → place_of m s leftward j < m
  unfolding place_of
  place_below = place_within (in_order m)

  there : (ordered : Bool) (j : ℕ) → j < m * s → bit_by ordered (row_by ordered j) (place_by ordered j) ≡ j
  there true j h = div-add-mod' j m
  there false j h =
      ap (λ (q : ℕ). q * s + j % s) (column_twice m leftward (j / s) ((div-lt_iff_lt-mul (positive_right m s j h)).1 h)) ∙ div-add-mod' j s

  -- every bit stands at its row and place
  pub bit_there : (j : ℕ) → j < m * s → bit_at m s leftward (row_of m s j) (place_of m s leftward j) ≡ j
  unfolding bit_at row_of place_of
  bit_there = there (in_order m)

  -- bit j has one label, that of its row, and one place in it
  pub record Once (j : ℕ) : Type 0 where
    pub row : row_of m s j < s
    pub place : place_of m s leftward j < m
    pub here : bit_at m s leftward (row_of m s j) (place_of m s leftward j) ≡ j
    pub only : (r k : ℕ) → r < s → k < m → bit_at m s leftward r k ≡ j → (r ≡ row_of m s j) × (k ≡ place_of m s leftward j)

  pub bit_once : (j : ℕ) → j < m * s → Once j
  bit_once j h =
      let a = row_below j h in
      let b = place_below j h in
      let e = bit_there j h in
      record { row = a; place = b; here = e; only = λ r k p q d. bit_one r k (row_of m s j) (place_of m s leftward j) p q a b (d ∙ sym e) }

  stepped : (ordered : Bool) (r k : ℕ) → bit_by ordered r k ≡ bit_by ordered 0 k + pick ordered m 1 * r
  stepped true r k = omega (arith, zero-mul m, mul_comm r m)
  stepped false r k = omega arith

  -- down the rows the bits of one place lie one stride apart
  pub bit_stepped : (r k : ℕ) → bit_at m s leftward r k ≡ bit_at m s leftward 0 k + stride_of m * r
  unfolding bit_at stride_of
  bit_stepped = stepped (in_order m)

-- "8PSK, first symbol: bits 0, 14960, 29920"
pub psk8_first : table 3 (bit_at 3 (symbols_of 3) (right_to_left 3 3) 0) ≡ 0 ∷ 14960 ∷ 29920 ∷ []
unfolding table bit_at right_to_left
psk8_first = refl

-- "and the other way round at rate 2"
pub psk8_first_leftward : table 3 (bit_at 3 (symbols_of 3) (right_to_left 3 2) 0) ≡ 29920 ∷ 14960 ∷ 0 ∷ []
unfolding table bit_at right_to_left
psk8_first_leftward = refl

-- "32APSK last row: 8975, 17951, 26927, 35903, 44879"
pub apsk32_last : table 5 (bit_at 5 (symbols_of 5) (right_to_left 5 8) 8975) ≡ 8975 ∷ 17951 ∷ 26927 ∷ 35903 ∷ 44879 ∷ []
unfolding table bit_at right_to_left
apsk32_last = refl

-- "Rates 1 and 2 read right to left, as does rate 7 under 32APSK": rate 7 reads the same row the other way round
pub apsk32_last_leftward : table 5 (bit_at 5 (symbols_of 5) (right_to_left 5 7) 8975) ≡ 44879 ∷ 35903 ∷ 26927 ∷ 17951 ∷ 8975 ∷ []
unfolding table bit_at right_to_left
apsk32_last_leftward = refl
