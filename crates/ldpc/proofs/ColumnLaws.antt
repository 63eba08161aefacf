-- Laws of sums in columns: where a position stands, what one address adds to its column and to the others.
use Rattle.std.specs.Prelude.{◌≡◌, List, ◌++◌, ℕ, ◌+◌, ◌*◌, ◌-◌, ◌%◌, ◌/◌, ◌<◌, ◌≤◌, take, drop}
use Rattle.std.proofs.Math.Path.{refl, ap}
use Rattle.std.proofs.Common.{sym, ap₂, ◌∙◌, mod-lt, mod-eq_of_lt, div-lt_iff_lt-mul, mul-add, mul-le-mul_left, arith, eq-eqb, ne_eqb, length-drop, length-take-le, get_or-append-add}
use Rattle.std.proofs.Math.Nat.{div-eq_of_lt, mul-add-mod_self_left, mul-add-div, div-add-mod}
use Rattle.std.proofs.Math.Decide.{dec_lt}
use Rattle.std.proofs.Math.ListN.{length, get_or, get_or-append}
use Rattle.std.proofs.Math.Seq.{get_or-take, get_or-drop}
use Rattle.lists.specs.CountLaws.{sum_each, sum_only}
use Rattle.lists.specs.Parts.{put}
use Rattle.ldpc.specs.Stepping.{stepped, address_times}
use Rattle.ldpc.proofs.StepLaws.{stepped_mod, turn_below, stepped_column}
use Rattle.ldpc.specs.Columns.{across, turned}

-- the number counted along the rows of what stands in place j of column c
pub across_at : (a b c j : ℕ) → j < b → across a b (b * c + j) ≡ a * j + c
across_at a b c j h =
    let z : 0 < b = omega arith in
    let r : (b * c + j) % b ≡ j = mul-add-mod_self_left b c j ∙ mod-eq_of_lt h in
    let d : (b * c + j) / b ≡ c = mul-add-div z c j ∙ omega (arith, div-eq_of_lt h) in
    ap₂ (λ (x y : ℕ). a * x + y) r d

-- the place of a position is one of the places
pub place_below : (q p : ℕ) → p < 374 * q → across 374 q p < 374 * q
place_below q p h =
    let z : 0 < q = omega arith in
    let b : p / q < 374 = (div-lt_iff_lt-mul z).1 h in
    omega (arith, mod-lt p z)

-- the place of a position holds that position
pub across_back : (q p : ℕ) → p < 374 * q → across q 374 (across 374 q p) ≡ p
across_back q p h =
    let z : 0 < q = omega arith in
    let b : p / q < 374 = (div-lt_iff_lt-mul z).1 h in
    across_at q 374 (p % q) (p / q) b ∙ div-add-mod p q

-- place j of column c is one of the positions
pub across_below : (q j c : ℕ) → j < 374 → c < q → q * j + c < 374 * q
across_below q j c h k = let l : j + 1 ≤ 374 = omega arith in omega (arith, mul-le-mul_left q l, mul-add q j 1)

-- two numbers of columns and places are the same only where both are
across_same : (q x y u v : ℕ) → u < q → v < q → q * x + u ≡ q * y + v → (x ≡ y) × (u ≡ v)
across_same q x y u v hu hv e =
    let z : 0 < q = omega arith in
    let r : u ≡ v = sym (mod-eq_of_lt hu) ∙ sym (mul-add-mod_self_left q x u) ∙ ap (λ (n : ℕ). n % q) e ∙ mul-add-mod_self_left q y v ∙ mod-eq_of_lt hv in
    let a = mul-add-div z x u in
    let b = mul-add-div z y v in
    let d = ap (λ (n : ℕ). n / q) e in
    (omega (arith, div-eq_of_lt hu, div-eq_of_lt hv), r)

-- what stands behind the first n
get_or_behind : (p r : List ℕ) (n k : ℕ) → length p ≡ n → get_or (p ++ r) (n + k) 0 ≡ get_or r k 0
get_or_behind p r n k e = rw e at (get_or-append-add p r k 0)

-- an element of a list that another was put into: before the place, in it, and behind it
module _ (a : ℕ) (ys xs : List ℕ) (h : a + length ys ≤ length xs) where
  front : length (take a xs) ≡ a
  front = length-take-le a xs (omega arith)

  pub get_or_put_before : (i : ℕ) → i < a → get_or (put a ys xs) i 0 ≡ get_or xs i 0
  unfolding put
  get_or_put_before i l = get_or-append (take a xs) _ 0 i (omega (arith, front)) ∙ get_or-take a xs i 0 l

  pub get_or_put_there : (k : ℕ) → k < length ys → get_or (put a ys xs) (a + k) 0 ≡ get_or ys k 0
  unfolding put
  get_or_put_there k l = get_or_behind (take a xs) _ a k front ∙ get_or-append ys _ 0 k l

  pub get_or_put_behind : (k : ℕ) → get_or (put a ys xs) (a + (length ys + k)) 0 ≡ get_or xs (a + (length ys + k)) 0
  unfolding put
  get_or_put_behind k =
      get_or_behind (take a xs) _ a (length ys + k) front
      ∙ get_or_behind ys _ (length ys) k refl
      ∙ get_or-drop (a + length ys) xs k 0
      ∙ ap (λ (i : ℕ). get_or xs i 0) (omega arith)

-- a bit of a turned row, on both sides of the turn
module _ (n : ℕ) (row : List ℕ) (l : length row ≡ 374) (h : n ≤ 374) where
  end : length (drop (374 - n) row) ≡ n
  end = length-drop (374 - n) row ∙ omega arith

  turned_before : (j : ℕ) → j < n → get_or (turned n row) j 0 ≡ get_or row (374 - n + j) 0
  turned_before j k = get_or-append (drop (374 - n) row) _ 0 j (omega (arith, end)) ∙ get_or-drop (374 - n) row j 0

  turned_from : (k : ℕ) → k < 374 - n → get_or (turned n row) (n + k) 0 ≡ get_or row k 0
  turned_from k j = get_or_behind (drop (374 - n) row) _ n k end ∙ get_or-take (374 - n) row k 0 j

-- a position that no bit of a row is stepped to has nothing added through the address
pub address_nowhere : (q a : ℕ) (row : List ℕ) (j : ℕ) → ((n : ℕ) → n < 374 → stepped q (374 * q) a n ≡ j → ⊥) → address_times q row a j ≡ 0
unfolding address_times
address_nowhere q a row j d = sum_each 374 0 _ (λ n l. rw (ne_eqb _ j (d n l))) ∙ omega arith

-- what the bits of a row add through an address
module _ (q a : ℕ) (z : 0 < q) (h : a < 374 * q) where
  -- the place of bit n in the column
  place : (n : ℕ) → stepped 1 374 (a / q) n ≡ (a / q + n) % 374
  place n = stepped_mod 1 374 (a / q) (omega arith) (turn_below q a z h) n ∙ ap (λ (k : ℕ). (a / q + k) % 374) (omega arith)

  -- the one bit that reaches place j of the column
  address_bit : (row : List ℕ) (j n : ℕ) → n < 374 → stepped 1 374 (a / q) n ≡ j → address_times q row a (q * j + a % q) ≡ get_or row n 0
  unfolding address_times
  address_bit row j n l e =
      sum_only 374 n _ l (λ i k d. rw (ne_eqb _ (q * j + a % q) (λ (w : stepped q (374 * q) a i ≡ q * j + a % q). d (other i k (across_same q _ j _ _ (mod-lt a z) (mod-lt a z) (sym (stepped_column q a z h i) ∙ w)).0))))
      ∙ rw (eq-eqb _ (q * j + a % q) (stepped_column q a z h n ∙ ap (λ (x : ℕ). q * x + a % q) e))
    where
      other : (i : ℕ) → i < 374 → stepped 1 374 (a / q) i ≡ j → i ≡ n
      other i k w = omega (arith, turn_below q a z h, place i, place n)

  -- bit n of the row at the position stepped to
  pub address_stepped : (row : List ℕ) (n : ℕ) → n < 374 → address_times q row a (stepped q (374 * q) a n) ≡ get_or row n 0
  address_stepped row n l = rw (stepped_column q a z h n) (address_bit row (stepped 1 374 (a / q) n) n l refl)

  -- what the address adds to its column
  pub address_there : (row : List ℕ) (j : ℕ) → length row ≡ 374 → j < 374 → address_times q row a (q * j + a % q) ≡ get_or (turned (a / q) row) j 0
  address_there row j l k = go (dec_lt j (a / q))
    where
      go : Dec (j < a / q) → address_times q row a (q * j + a % q) ≡ get_or (turned (a / q) row) j 0
      go (yes b) =
          let t = turn_below q a z h in
          address_bit row j (374 - a / q + j) (omega arith) (place (374 - a / q + j) ∙ omega arith)
          ∙ sym (turned_before (a / q) row l (omega arith) j b)
      go (no b) =
          let t = turn_below q a z h in
          let e : a / q + (j - a / q) ≡ j = omega arith in
          address_bit row j (j - a / q) (omega arith) (place (j - a / q) ∙ omega arith)
          ∙ sym (turned_from (a / q) row l (omega arith) (j - a / q) (omega arith))
          ∙ ap (λ (i : ℕ). get_or (turned (a / q) row) i 0) e

  -- and nothing to the others
  pub address_elsewhere : (row : List ℕ) (j c : ℕ) → c < q → (c ≡ a % q → ⊥) → address_times q row a (q * j + c) ≡ 0
  address_elsewhere row j c k d =
      address_nowhere q a row (q * j + c) (λ i _ w. d (sym (across_same q _ j _ _ (mod-lt a z) k (sym (stepped_column q a z h i) ∙ w)).1))
