-- Document 01, "Worked by hand": the cases of parity.
use Rattle.std.specs.Prelude.{◌≡◌, refl, List, [], ◌∷◌, ◌++◌, eqb, leb, length, get_or, replicate}
use Rattle.std.proofs.Common.{sym, ◌∙◌, mod-eq_of_lt, le-leb, eq-eqb, ne_eqb, length-append, ext_get_or}
use Prim.Native.Nat.{ℕ, zero, suc, ◌+◌, ◌*◌, ◌-◌, ◌%◌, ◌<◌, ◌≤◌}
use Rattle.std.proofs.Math.Decide.{ℕ_discrete, dec_lt}
use native.Mathlib.Omega.{arith}
use Rattle.std.proofs.lemmas.Bool.{lt-leb}
use Rattle.std.proofs.lemmas.List.{length-replicate, get_or-replicate, get_or_at}
use Rattle.std.proofs.Math.ListN.{get_or-append}
use Rattle.lists.specs.Choice.{pick}
use Rattle.lists.specs.ChoiceLaws.{pick_same}
use Rattle.lists.specs.CountLaws.{sum_each, sum_only}
use Rattle.parity_table.specs.Tables.{positions, row_start}
use Rattle.parity_table.specs.TableLaws.{row_start_none}
use Rattle.ldpc.specs.Parity.{spacing, position, bit_times, row_times, times_to, times, running, parity_of, Only}
use Rattle.ldpc.proofs.ParityLaws.{bit_times_none, bit_times_more, length_parity_of, get_or_parity_of}

bit_zero : (rows : ℕ) (t : List ℕ) (from n m b j : ℕ) → b ≡ 0 → bit_times rows t from n m b j ≡ 0
unfolding bit_times
bit_zero rows t from n m b j e = sum_each n 0 _ (λ i _. rw e (pick_same (eqb (position rows (get_or t (from + i) 0) m) j) 0)) ∙ omega arith

-- the running sum of a run that has its one 1 at a
ones_first : (a : ℕ) → pick (eqb a 0) 1 0 % 2 ≡ pick (leb a 0) 1 0
ones_first a = go (ℕ_discrete a 0)
  where
    go : Dec (a ≡ 0) → pick (eqb a 0) 1 0 % 2 ≡ pick (leb a 0) 1 0
    go (yes e) = rw (eq-eqb a 0 e, le-leb a 0 (omega arith))
    go (no n) = rw (ne_eqb a 0 n, lt-leb a 0 (omega arith))

ones_next : (a j : ℕ) → (pick (eqb a (suc j)) 1 0 + pick (leb a j) 1 0) % 2 ≡ pick (leb a (suc j)) 1 0
ones_next a j = go (ℕ_discrete a (suc j)) (dec_lt j a)
  where
    go : Dec (a ≡ suc j) → Dec (j < a) → (pick (eqb a (suc j)) 1 0 + pick (leb a j) 1 0) % 2 ≡ pick (leb a (suc j)) 1 0
    go (yes e) (yes l) = rw (eq-eqb a (suc j) e, lt-leb a j l, le-leb a (suc j) (omega arith))
    go (yes e) (no l) = absurd (omega arith)
    go (no n) (yes l) = rw (ne_eqb a (suc j) n, lt-leb a j l, lt-leb a (suc j) (omega arith))
    go (no n) (no l) = rw (ne_eqb a (suc j) n, le-leb a j (omega arith), le-leb a (suc j) (omega arith))

module _ (rows : ℕ) (t u : List ℕ) (m a : ℕ) (h : Only rows t u m a) where
  row_zero : (from c base n j : ℕ) → 374 ≤ base → row_times rows t u from c base n j ≡ 0
  unfolding row_times
  row_zero from c base n j l =
      sum_each n 0 _ (λ i _. bit_zero rows t from c i (get_or u (base + i) 0) j (h.clear (base + i) (λ e. omega (arith, h.first_row))))
      ∙ omega arith

  one_bit : (j : ℕ) → bit_times rows t 1 1 m (get_or u m 0) j ≡ pick (eqb (position rows a m) j) 1 0
  one_bit j = bit_times_more rows t 1 m (get_or u m 0) j 0 ∙ rw (bit_times_none, h.set, h.address) (omega arith)

  first_row : (j : ℕ) → row_times rows t u 1 1 0 374 j ≡ pick (eqb (position rows a m) j) 1 0
  unfolding row_times
  first_row j =
      sum_only 374 m _ h.first_row (λ k _ d. bit_zero rows t 1 1 k (get_or u (0 + k) 0) j (h.clear (0 + k) (λ e. d (omega arith))))
      ∙ let z : 0 + m ≡ m = omega arith in rw z (one_bit j)

  -- the bit reaches its position once, and no other
  pub times_only : (j : ℕ) → times rows t u j ≡ pick (eqb (position rows a m) j) 1 0
  unfolding times_to
  times_only j =
      sum_only rows 0 _ h.some (λ r _ d. row_zero (row_start t r + 1) (get_or t (row_start t r) 0) (374 * r) 374 j (omega (arith, d)))
      ∙ rw (row_start_none, h.one) (first_row j)

-- bits of which only the second is set, and a row of one address
second : (rows a : ℕ) → 1 ≤ rows → a < positions rows → Only rows (1 ∷ a ∷ []) (0 ∷ 1 ∷ []) 1 a
second rows a s l = record { some = s; first_row = omega arith; set = refl; clear = clear; one = refl; address = refl; below = l }
  where
    bits : List ℕ
    bits = 0 ∷ 1 ∷ []

    clear : (k : ℕ) → (k ≡ 1 → ⊥) → get_or bits k 0 ≡ 0
    clear zero d = refl
    clear (suc zero) d = absurd (d refl)
    clear (suc (suc k)) d = refl

-- "rate 5, address 4958: bit 1 reaches 4997"
pub rate_5 : (j : ℕ) → times 81 (1 ∷ 4958 ∷ []) (0 ∷ 1 ∷ []) j ≡ pick (eqb 4997 j) 1 0
rate_5 j = times_only 81 _ _ 1 4958 (second 81 4958 (omega arith) (omega arith)) j

-- "Rate 3, address 22065: bit 1 reaches 58"
pub rate_3 : (j : ℕ) → times 61 (1 ∷ 22065 ∷ []) (0 ∷ 1 ∷ []) j ≡ pick (eqb 58 j) 1 0
rate_3 j = times_only 61 _ _ 1 22065 (second 61 22065 (omega arith) (omega arith)) j

-- bit 0 alone
module _ (rows : ℕ) (t u : List ℕ) (a : ℕ) (h : Only rows t u 0 a) where
  times_first : (j : ℕ) → times rows t u j ≡ pick (eqb a j) 1 0
  times_first j =
      let z : a + 0 * spacing rows ≡ a = omega arith in
      let p : position rows a 0 ≡ a = rw z (mod-eq_of_lt h.below) in
      times_only rows t u 0 a h j ∙ rw p

  running_first : (j : ℕ) → running (times rows t u) j ≡ pick (leb a j) 1 0
  unfolding running
  running_first zero = rw (times_first zero) (ones_first a)
  running_first (suc j) = rw (times_first (suc j), running_first j) (ones_next a j)

  -- every parity bit from the address on is 1, and no other
  pub only_first : (j : ℕ) → j < positions rows → get_or (parity_of rows t u) j 0 ≡ pick (leb a j) 1 0
  only_first j l = get_or_parity_of rows t u j l ∙ running_first j

-- "only bit 0 set, its one address 0: every parity bit is 1"
pub address_first : (rows : ℕ) (t u : List ℕ) → Only rows t u 0 0 → parity_of rows t u ≡ replicate (positions rows) 1
address_first rows t u h =
    let n = length_parity_of rows t u in
    let m = length-replicate {A = ℕ} (positions rows) 1 in
    ext_get_or 0 (parity_of rows t u) (replicate (positions rows) 1) (n ∙ sym m)
    (λ j l. only_first rows t u 0 h j (omega arith) ∙ rw (le-leb 0 j (omega arith)) (sym (get_or-replicate (positions rows) j 1 0 (omega arith))))

-- "address M − 1: only the last"
pub address_last : (rows : ℕ) (t u : List ℕ) → Only rows t u 0 (positions rows - 1) → parity_of rows t u ≡ replicate (positions rows - 1) 0 ++ (1 ∷ [])
address_last rows t u h =
    let b = h.below in
    let w : length (zeros ++ (1 ∷ [])) ≡ positions rows = length-append zeros (1 ∷ []) ∙ omega (arith, long) in
    ext_get_or 0 (parity_of rows t u) (zeros ++ (1 ∷ [])) (length_parity_of rows t u ∙ sym w)
    (λ j l.
    let i : j < positions rows = omega (arith, length_parity_of rows t u) in
    only_first rows t u (positions rows - 1) h j i ∙ go j i (ℕ_discrete j (positions rows - 1)))
  where
    zeros : List ℕ
    zeros = replicate (positions rows - 1) 0

    long : length zeros ≡ positions rows - 1
    long = length-replicate {A = ℕ} (positions rows - 1) 0

    go : (j : ℕ) → j < positions rows → Dec (j ≡ positions rows - 1) → pick (leb (positions rows - 1) j) 1 0 ≡ get_or (zeros ++ (1 ∷ [])) j 0
    go j l (yes e) = rw (le-leb (positions rows - 1) j (omega arith)) (sym (get_or_at zeros 1 [] 0 j (long ∙ sym e)))
    go j l (no d) =
        let k : j < positions rows - 1 = omega arith in
        rw (lt-leb (positions rows - 1) j k)
        (sym (get_or-append zeros (1 ∷ []) 0 j (omega (arith, long)) ∙ get_or-replicate (positions rows - 1) j 0 0 k))
