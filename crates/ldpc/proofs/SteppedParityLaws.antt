-- Laws of parity by steps: through accepted addresses it is document 01's.
use Rattle.std.specs.Prelude.{◌≡◌, refl, true, List, ℕ, zero, suc, ◌+◌, ◌*◌, ◌-◌, ◌%◌, ◌<◌, ◌≤◌, length, get_or, drop}
use Rattle.std.proofs.Math.Path.{sym, ap}
use Rattle.std.proofs.Common.{◌∙◌, get_or-take, get_or-drop}
use native.Mathlib.Omega.{arith}
use Rattle.std.proofs.Math.Seq.{take_all}
use Rattle.lists.specs.Count.{table}
use Rattle.lists.specs.CountLaws.{sum_none, sum_more, sum_same, sum_add, sum_each, table_same}
use Rattle.lists.specs.Parts.{part}
use Rattle.lists.specs.PartLaws.{length_part}
use Rattle.parity_table.specs.Tables.{positions, row_start, table_ok}
use Rattle.parity_table.specs.TableLaws.{row_at}
use Rattle.ldpc.specs.Parity.{spacing, position, bit_times, row_times, times_to, times, running, parity_of}
use Rattle.ldpc.proofs.ParityLaws.{bit_times_none, bit_times_more, running_same}
use Rattle.ldpc.specs.Stepping.{stepped, address_times, row_stepped, times_stepped, parity_stepped}
use Rattle.ldpc.proofs.StepLaws.{stepped_mod}

-- one address more of a row, and one row more
pub row_stepped_none : (q : ℕ) (t u : List ℕ) (from base j : ℕ) → row_stepped q t u from 0 base j ≡ 0
unfolding row_stepped
row_stepped_none q t u from base j = sum_none _

pub row_stepped_more : (q : ℕ) (t u : List ℕ) (from n base j : ℕ)
    → row_stepped q t u from (n + 1) base j ≡ row_stepped q t u from n base j + address_times q (part base (base + 374) u) (get_or t (from + n) 0) j
unfolding row_stepped
row_stepped_more q t u from n base j = sum_more n _

-- the same of a row's bits and addresses by themselves
pub row_stepped_whole : (q : ℕ) (t u : List ℕ) (n j : ℕ) → length u ≡ 374
    → row_stepped q t u 0 (n + 1) 0 j ≡ row_stepped q t u 0 n 0 j + address_times q u (get_or t n 0) j
row_stepped_whole q t u n j l =
    let e : part 0 (0 + 374) u ≡ u = take_all 374 u (omega arith) in
    let z : 0 + n ≡ n = omega arith in
    row_stepped_more q t u 0 n 0 j ∙ rw (e, z) refl

-- and of those that stand in a table and in all bits
pub row_stepped_part : (q : ℕ) (t u : List ℕ) (from c base j : ℕ) → from + c ≤ length t → base + 374 ≤ length u
    → row_stepped q t u from c base j ≡ row_stepped q (part from (from + c) t) (part base (base + 374) u) 0 c 0 j
unfolding row_stepped
row_stepped_part q t u from c base j h l =
    let v = part base (base + 374) u in
    let e : part 0 (0 + 374) v ≡ v = take_all 374 v (omega (arith, length_part base (base + 374) u l)) in
    sum_same c _ _ (λ i k.
    let a : get_or (part from (from + c) t) (0 + i) 0 ≡ get_or t (from + i) 0
    = get_or-take (from + c - from) (drop from t) (0 + i) 0 (omega arith) ∙ get_or-drop from t (0 + i) 0 ∙ ap (λ (n : ℕ). get_or t n 0) (omega arith) in
    rw (e, a) refl)

pub times_stepped_none : (q : ℕ) (t u : List ℕ) (j : ℕ) → times_stepped q t u 0 j ≡ 0
unfolding times_stepped
times_stepped_none q t u j = sum_none _

pub times_stepped_more : (q : ℕ) (t u : List ℕ) (j r s : ℕ) → s ≡ row_start t r
    → times_stepped q t u (r + 1) j ≡ times_stepped q t u r j + row_stepped q t u (s + 1) (get_or t s 0) (374 * r) j
unfolding times_stepped
times_stepped_more q t u j r s e = rw e (sum_more r _)

-- running sums of what is, modulo 2, the times are the parity
pub parity_stepped_is : (rows : ℕ) (t u : List ℕ) (f : ℕ → ℕ)
    → ((p : ℕ) → p < positions rows → f p % 2 ≡ times_stepped (spacing rows) t u rows p % 2) → table (positions rows) (running f) ≡ parity_stepped rows t u
unfolding parity_stepped
parity_stepped_is rows t u f e = table_same (positions rows) _ _ (λ j h. running_same f _ j (λ k l. e k (omega arith)))

-- "Show that each position stepped to is document 01's"
pub stepped_position : (rows a : ℕ) → a < positions rows → (n : ℕ) → stepped (spacing rows) (positions rows) a n ≡ position rows a n
stepped_position rows a h n = stepped_mod (spacing rows) (positions rows) a (omega arith) h n

-- the same of a row's bits, through addresses below M
module _ (rows : ℕ) (t u : List ℕ) (from base j : ℕ) where
  bit_at : (n : ℕ) → n < 374 → get_or (part base (base + 374) u) n 0 ≡ get_or u (base + n) 0
  bit_at n h = get_or-take (base + 374 - base) (drop base u) n 0 (omega arith) ∙ get_or-drop base u n 0

  one_more : (c : ℕ) → get_or t (from + c) 0 < positions rows
      → row_times rows t u from c base 374 j + address_times (spacing rows) (part base (base + 374) u) (get_or t (from + c) 0) j
      ≡ row_times rows t u from (c + 1) base 374 j
  unfolding row_times address_times
  one_more c h =
      sym (sum_add 374 (λ n. bit_times rows t from c n (get_or u (base + n) 0) j) _)
      ∙ sum_same 374 _ _ (λ n l. rw (bit_at n l, stepped_position rows (get_or t (from + c) 0) h n) (sym (bit_times_more rows t from n (get_or u (base + n) 0) j c)))

  no_address : row_times rows t u from 0 base 374 j ≡ 0
  unfolding row_times
  no_address = sum_each 374 0 _ (λ n _. bit_times_none rows t from n (get_or u (base + n) 0) j) ∙ omega arith

  row_stepped_law : (c : ℕ) → ((i : ℕ) → i < c → get_or t (from + i) 0 < positions rows) → row_stepped (spacing rows) t u from c base j ≡ row_times rows t u from c base 374 j
  row_stepped_law zero below = row_stepped_none (spacing rows) t u from base j ∙ sym no_address
  row_stepped_law (suc c) below =
      let e : suc c ≡ c + 1 = omega arith in
      rw (e, row_stepped_more (spacing rows) t u from c base j, row_stepped_law c (λ i h. below i (omega arith)))
      (one_more c (below c (omega arith)))

-- of all rows of an accepted table
module _ (rows : ℕ) (t u : List ℕ) (ok : table_ok rows t ≡ true) where
  pub times_stepped_law : (j : ℕ) → times_stepped (spacing rows) t u rows j ≡ times rows t u j
  unfolding times_stepped times_to
  times_stepped_law j =
      sum_same rows _ _ (λ r h.
      row_stepped_law rows t u (row_start t r + 1) (374 * r) j (get_or t (row_start t r) 0) (row_at rows t ok r (row_start t r) h refl).below)

  -- and of the parity
  pub parity_stepped_law : parity_stepped rows t u ≡ parity_of rows t u
  unfolding parity_of
  parity_stepped_law = sym (parity_stepped_is rows t u (times rows t u) (λ p _. ap (λ (x : ℕ). x % 2) (sym (times_stepped_law p))))
