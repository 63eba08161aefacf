-- Laws of the published tables: each is accepted; the number of a copy.
use Rattle.std.specs.Prelude.{◌≡◌, refl, true, false, List, ℕ, ◌+◌, ◌-◌, ◌≤◌, leb, length}
use Rattle.std.proofs.Common.{arith}
use borrow.Author.Tests.{leb-true, eq-eqb, ne_eqb}
use Rattle.lists.specs.Count.{every}
use Rattle.lists.specs.CountLaws.{every_at}
use Rattle.refusal.specs.Numbers.{PLAN, LENGTH}
use Rattle.parity_table.specs.Tables.{row_start, address_ok, row_ok, rows_ok, table_ok}
use Rattle.published.specs.Printed.{rate1, rate2, rate3, rate4, rate5, rate6, rate7, rate8, rate9, rate10, rate11}
use Rattle.published.specs.Published.{printed, form, nth, table_at, table_of, copy_number}
use Rattle.plan.specs.Rates.{rate_ok, rows_of}

-- the test of all eleven tables, computed
all_accepted : every 11 (λ k. table_ok (rows_of (k + 1)) (table_at k)) ≡ true
unfolding every table_ok rows_ok row_ok row_start address_ok rows_of table_at form nth printed rate1 rate2 rate3 rate4 rate5 rate6 rate7 rate8 rate9 rate10 rate11
all_accepted = refl

-- each published table is an accepted table of its rate's rows
pub accepted : (rate : ℕ) → 1 ≤ rate → rate ≤ 11 → table_ok (rows_of rate) (table_of rate) ≡ true
accepted rate l h =
    let e : rate - 1 + 1 ≡ rate = omega arith in
    rw e at (every_at 11 (λ k. table_ok (rows_of (k + 1)) (table_at k)) all_accepted (rate - 1) (omega arith))

-- no published table has more than 510 numbers
all_short : every 11 (λ k. leb (length (table_at k)) 510) ≡ true
unfolding every table_at form nth printed rate1 rate2 rate3 rate4 rate5 rate6 rate7 rate8 rate9 rate10 rate11
all_short = refl

pub table_short : (rate : ℕ) → 1 ≤ rate → rate ≤ 11 → length (table_of rate) ≤ 510
table_short rate l h = leb-true (length (table_of rate)) 510 (every_at 11 (λ k. leb (length (table_at k)) 510) all_short (rate - 1) (omega arith))

module _ (rate : ℕ) (found : List ℕ) where
  pub number_unknown : rate_ok rate ≡ false → copy_number rate found ≡ PLAN
  unfolding copy_number
  number_unknown h = rw h

  pub number_long : rate_ok rate ≡ true → (length found ≡ length (table_of rate) → ⊥) → copy_number rate found ≡ LENGTH
  unfolding copy_number
  number_long h n = rw (h, ne_eqb (length found) (length (table_of rate)) n)

  pub number_good : rate_ok rate ≡ true → length found ≡ length (table_of rate) → copy_number rate found ≡ 0
  unfolding copy_number
  number_good h e = rw (h, eq-eqb (length found) (length (table_of rate)) e)
