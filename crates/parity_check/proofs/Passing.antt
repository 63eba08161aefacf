-- The parity positions that the check has passed.
use mathlib.Core.Path.{◌≡◌, sym, ap, ◌∙◌}
use mathlib.Core.Bool.{true}
use mathlib.Core.List.{List}
use Prim.Native.Nat.{ℕ, ◌+◌, ◌*◌, ◌%◌, ◌<◌}
use native.Mathlib.Omega.{arith}
use borrow.Author.Count.{below_none, below_more}
use lib.ListN.{get_or, replicate}
use Rattle.lists.specs.Count.{sum}
use Rattle.lists.specs.CountLaws.{sum_none}
use Rattle.parity_table.specs.Tables.{positions, row_start, table_ok}
use Rattle.ldpc.specs.Parity.{spacing, times, parity_of}
use Rattle.ldpc.proofs.ParityLaws.{running_sum, get_or_parity_of}
use Rattle.ldpc.specs.Stepping.{row_stepped, times_stepped}
use Rattle.ldpc.proofs.SteppedParityLaws.{times_stepped_more, times_stepped_law}
use Rattle.ldpc.specs.Columns.{across}
use Rattle.ldpc.specs.Needs.{Added, AddedBySteps}
use Rattle.ldpc.proofs.AddedLaws.{carry_more, sum_at_law}
use Rattle.parity_check.specs.Check.{next_place}
use Rattle.parity_check.specs.CheckLaws.{place_none, place_next}

-- one row more in the columns
pub times_stepped_next : (q : ℕ) (t u : List ℕ) (j r s n n' c i : ℕ) → s ≡ row_start t r → n ≡ r → n' ≡ r + 1 → c ≡ get_or t s 0 → i ≡ c
    → times_stepped q t u n' j ≡ times_stepped q t u n j + row_stepped q t u (s + 1) i (374 * r) j
times_stepped_next q t u j r s n n' c i e d f g h = rw (d, f, h, g) (times_stepped_more q t u j r s e)

-- the same sums before, and the same number of rows
pub added_rows : (s₀ s₁ s : List ℕ) (rows : ℕ) (t u : List ℕ) {n n' : ℕ} → s₀ ≡ s₁ → n ≡ n'
    → Added s₀ s (λ k. times_stepped (spacing rows) t u n (across (spacing rows) 374 k)) → Added s₁ s (λ k. times_stepped (spacing rows) t u n' (across (spacing rows) 374 k))
added_rows s₀ s₁ s rows t u d e a = rw (d, e) at a

-- the parity positions passed by the check, and the place in the columns of the next one
pub record Passed (rows : ℕ) (t u received : List ℕ) (last position place : ℕ) : Type 0 where
  pub stands : place ≡ across 374 (spacing rows) position
  pub carried : last ≡ sum position (times rows t u) % 2
  pub right : (j : ℕ) → j < position → get_or (parity_of rows t u) j 0 ≡ get_or received j 0

pub passed_none : (rows : ℕ) (t u received : List ℕ) → rows < 120 → Passed rows t u received 0 0 0
passed_none rows t u received h = record {
  stands = sym (place_none (spacing rows) (omega arith));
  carried = omega (arith, sum_none (times rows t u));
  right = below_none _;
}

-- cleared columns to which the bits of all rows of an accepted table were added by steps
module _ (rows : ℕ) (t u columns₀ columns : List ℕ) (ok : table_ok rows t ≡ true) (e : columns₀ ≡ replicate (positions rows) 0)
    (a : AddedBySteps rows t u columns₀ columns) where
  -- the running sum at the next position is the parity bit there
  pub parity_at : (received : List ℕ) (last position place x : ℕ) → Passed rows t u received last position place → position < positions rows → x ≡ get_or columns place 0
      → ((last + x) % 2 ≡ sum (position + 1) (times rows t u) % 2) × ((last + x) % 2 ≡ get_or (parity_of rows t u) position 0)
  parity_at received last position place x v h d =
      let y : x % 2 ≡ times rows t u position % 2
      = ap (λ (n : ℕ). n % 2) (d ∙ ap (λ (n : ℕ). get_or columns n 0) v.stands)
      ∙ sum_at_law rows t u columns₀ columns e a position h
      ∙ ap (λ (n : ℕ). n % 2) (times_stepped_law rows t u ok position) in
      let w = carry_more last x (times rows t u) position v.carried y in
      (w, w ∙ sym (get_or_parity_of rows t u position h ∙ running_sum (times rows t u) position))

  -- where it is the bit received, one position more is passed
  pub passed_more : (received : List ℕ) (edge last position place x : ℕ) → edge + 374 ≡ positions rows → Passed rows t u received last position place → position < positions rows → x ≡ get_or columns place 0
      → (last + x) % 2 ≡ get_or received position 0 → Passed rows t u received ((last + x) % 2) (position + 1) (next_place edge place)
  passed_more received edge last position place x w v h d b =
      let p = parity_at received last position place x v h d in
      record {
        stands = rw v.stands (place_next (spacing rows) edge position w h);
        carried = p.0;
        right = below_more _ _ v.right (sym p.1 ∙ b);
      }
