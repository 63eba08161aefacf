-- Laws of parity: the times that a position is reached, the running sum and the parity bits.
use Rattle.std.specs.Prelude.{◌≡◌, refl, ◌↔◌, Bool, true, false, List, ℕ, zero, suc, ◌+◌, ◌*◌, ◌%◌, ◌<◌, ◌≤◌, eqb, length, get_or}
use Rattle.std.proofs.Common.{sym, ap, ap₂, ◌∙◌, arith}
use Rattle.std.proofs.Math.Decide.{dec_lt}
use Rattle.std.proofs.Math.ListN.{get_or-eq_default}
use Rattle.lists.specs.Choice.{pick}
use Rattle.lists.specs.Count.{sum}
use Rattle.lists.specs.CountLaws.{sum_none, sum_more, length_table, get_or_table, table_is}
use Rattle.lists.specs.Runs.{Bits}
use Rattle.bits.specs.Sums.{added}
use Rattle.bits.specs.SumLaws.{length_added, get_or_added}
use Rattle.parity_table.specs.Tables.{positions, row_start}
use Rattle.ldpc.specs.Parity.{position, bit_times, row_times, times_to, times, running, parity_of}

module _ (rows : ℕ) (t : List ℕ) (from m b j : ℕ) where
  pub bit_times_none : bit_times rows t from 0 m b j ≡ 0
  unfolding bit_times
  bit_times_none = sum_none _

  pub bit_times_more : (n : ℕ) → bit_times rows t from (n + 1) m b j ≡ bit_times rows t from n m b j + pick (eqb (position rows (get_or t (from + n) 0) m) j) b 0
  unfolding bit_times
  bit_times_more n = sum_more n _

-- what holds of each term modulo 2 holds of the sums
pub sum_parity : (n : ℕ) (f g h : ℕ → ℕ) → ((k : ℕ) → k < n → (f k + g k) % 2 ≡ h k % 2) → (sum n f + sum n g) % 2 ≡ sum n h % 2
unfolding sum
sum_parity zero f g h e = refl
sum_parity (suc n) f g h e = omega (arith, sum_parity n f g h (λ k l. e k (omega arith)), e n (omega arith))

pick_parity : (t : Bool) (a b c : ℕ) → (a + b) % 2 ≡ c % 2 → (pick t a 0 + pick t b 0) % 2 ≡ pick t c 0 % 2
pick_parity true a b c e = e
pick_parity false a b c e = refl

-- a bit of a sum, also where the runs have ended
bit_added : (u v : List ℕ) (k : ℕ) → length u ≡ length v → (get_or u k 0 + get_or v k 0) % 2 ≡ get_or (added u v) k 0 % 2
bit_added u v k l = go (dec_lt k (length u))
  where
    go : Dec (k < length u) → (get_or u k 0 + get_or v k 0) % 2 ≡ get_or (added u v) k 0 % 2
    go (yes h) = omega (arith, get_or_added u v k h)
    go (no h) =
        let a : length u ≤ k = omega arith in
        let b : length v ≤ k = omega arith in
        let c : length (added u v) ≤ k = omega (arith, length_added u v) in
        rw (get_or-eq_default u 0 a, get_or-eq_default v 0 b, get_or-eq_default (added u v) 0 c)

-- the times of two runs together are, modulo 2, those of their sum
pub times_added : (rows : ℕ) (t u v : List ℕ) (j : ℕ) → length u ≡ length v → (times rows t u j + times rows t v j) % 2 ≡ times rows t (added u v) j % 2
unfolding times_to row_times bit_times
times_added rows t u v j l =
    sum_parity rows _ _ _ (λ r _. sum_parity 374 _ _ _ (λ m _. sum_parity (get_or t (row_start t r) 0) _ _ _ (λ i _.
    pick_parity (eqb (position rows (get_or t (row_start t r + 1 + i) 0) m) j) _ _ _ (bit_added u v (374 * r + m) l))))

-- the running sum in one sum
pub running_sum : (f : ℕ → ℕ) (j : ℕ) → running f j ≡ sum (j + 1) f % 2
unfolding running
running_sum f zero = omega (arith, sum_more 0 f, sum_none f)
running_sum f (suc j) =
    let n : suc j ≡ j + 1 = omega arith in
    omega (arith, running_sum f j, sum_more (suc j) f, ap (λ (k : ℕ). sum k f) n)

pub running_below : (f : ℕ → ℕ) (j : ℕ) → running f j < 2
running_below f j = rw (running_sum f j) (omega arith)

pub running_added : (f g h : ℕ → ℕ) (j : ℕ) → ((k : ℕ) → (f k + g k) % 2 ≡ h k % 2) → (running f j + running g j) % 2 ≡ running h j
running_added f g h j e =
    omega (arith, sum_parity (j + 1) f g h (λ k _. e k), running_sum f j, running_sum g j, running_sum h j)

pub running_same : (f g : ℕ → ℕ) (j : ℕ) → ((k : ℕ) → k ≤ j → f k % 2 ≡ g k % 2) → running f j ≡ running g j
unfolding running
running_same f g zero e = e zero (omega arith)
running_same f g (suc j) e = omega (arith, running_same f g j (λ k l. e k (omega arith)), e (suc j) (omega arith))

-- the running sum is 0 up to j exactly where the terms are even
running_zero : (f : ℕ → ℕ) (j : ℕ) → ((k : ℕ) → k ≤ j → f k % 2 ≡ 0) → running f j ≡ 0
unfolding running
running_zero f zero e = e zero (omega arith)
running_zero f (suc j) e = omega (arith, running_zero f j (λ k l. e k (omega arith)), e (suc j) (omega arith))

running_even : (f : ℕ → ℕ) (j : ℕ) → ((k : ℕ) → k ≤ j → running f k ≡ 0) → f j % 2 ≡ 0
unfolding running
running_even f zero e = e zero (omega arith)
running_even f (suc j) e = omega (arith, e (suc j) (omega arith), e j (omega arith))

module _ (rows : ℕ) (t u : List ℕ) where
  pub length_parity_of : length (parity_of rows t u) ≡ positions rows
  unfolding parity_of
  length_parity_of = length_table _ _

  pub get_or_parity_of : (j : ℕ) → j < positions rows → get_or (parity_of rows t u) j 0 ≡ running (times rows t u) j
  unfolding parity_of
  get_or_parity_of j h = get_or_table (positions rows) _ j h

  -- a list of M elements that are the running sums is the parity
  pub parity_of_is : (xs : List ℕ) → length xs ≡ positions rows → ((j : ℕ) → j < positions rows → get_or xs j 0 ≡ running (times rows t u) j) → xs ≡ parity_of rows t u
  unfolding parity_of
  parity_of_is xs l h = table_is (positions rows) _ xs l h

  pub parity_of_bits : Bits (parity_of rows t u)
  parity_of_bits k = go (dec_lt k (positions rows))
    where
      go : Dec (k < positions rows) → get_or (parity_of rows t u) k 0 < 2
      go (yes h) = rw (get_or_parity_of k h) (running_below (times rows t u) k)
      go (no h) =
          let l : length (parity_of rows t u) ≤ k = omega (arith, length_parity_of) in
          rw (get_or-eq_default (parity_of rows t u) 0 l) (omega arith)

-- the parity of a sum is the sum of the parities
pub parity_of_added : (rows : ℕ) (t u v : List ℕ) → length u ≡ length v → parity_of rows t (added u v) ≡ added (parity_of rows t u) (parity_of rows t v)
parity_of_added rows t u v l =
    let a = length_parity_of rows t u in
    let b = length_added (parity_of rows t u) (parity_of rows t v) in
    sym (parity_of_is rows t (added u v) (added (parity_of rows t u) (parity_of rows t v)) (b ∙ a)
    (λ j h.
    get_or_added (parity_of rows t u) (parity_of rows t v) j (omega arith)
    ∙ ap₂ (λ (x y : ℕ). (x + y) % 2) (get_or_parity_of rows t u j h) (get_or_parity_of rows t v j h)
    ∙ running_added (times rows t u) (times rows t v) (times rows t (added u v)) j (λ k. times_added rows t u v k l)))

-- document 01, "What demand 3 compares": the parities of three runs add up
pub parity_of_three : (rows : ℕ) (t u v w : List ℕ) → length u ≡ length v → length v ≡ length w
    → parity_of rows t (added (added u v) w) ≡ added (added (parity_of rows t u) (parity_of rows t v)) (parity_of rows t w)
parity_of_three rows t u v w k l =
    parity_of_added rows t (added u v) w (length_added u v ∙ k ∙ l)
    ∙ ap (λ (x : List ℕ). added x (parity_of rows t w)) (parity_of_added rows t u v k)

-- the parities of two runs are equal exactly when the bits that differ reach each position an even number of times
pub parity_of_equal : (rows : ℕ) (t u v : List ℕ) → length u ≡ length v
    → (parity_of rows t u ≡ parity_of rows t v) ↔ ((j : ℕ) → j < positions rows → times rows t (added u v) j % 2 ≡ 0)
parity_of_equal rows t u v l = (there, back)
  where
    both : (j : ℕ) → (running (times rows t u) j + running (times rows t v) j) % 2 ≡ running (times rows t (added u v)) j
    both j = running_added (times rows t u) (times rows t v) (times rows t (added u v)) j (λ k. times_added rows t u v k l)

    there : parity_of rows t u ≡ parity_of rows t v → (j : ℕ) → j < positions rows → times rows t (added u v) j % 2 ≡ 0
    there e j h =
        running_even (times rows t (added u v)) j (λ k i.
        let a = get_or_parity_of rows t u k (omega arith) in
        let b = get_or_parity_of rows t v k (omega arith) in
        omega (arith, both k, ap (λ (x : List ℕ). get_or x k 0) e))

    back : ((j : ℕ) → j < positions rows → times rows t (added u v) j % 2 ≡ 0) → parity_of rows t u ≡ parity_of rows t v
    back e =
        parity_of_is rows t v (parity_of rows t u) (length_parity_of rows t u) (λ j h.
        let z = running_zero (times rows t (added u v)) j (λ k i. e k (omega arith)) in
        let a = running_below (times rows t u) j in
        let b = running_below (times rows t v) j in
        omega (arith, get_or_parity_of rows t u j h, both j))
