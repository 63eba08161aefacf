-- The published parity tables, and the call that copies one.
use Rattle.std.specs.Prelude.{List, [], ◌∷◌, ◌++◌, ℕ, zero, suc, ◌-◌, eqb, length}
use Rattle.lists.specs.Choice.{pick, and_then}
use Rattle.refusal.specs.Numbers.{PLAN, LENGTH}
use Rattle.plan.specs.Rates.{rate_ok}
use Rattle.published.specs.Printed.{rate1, rate2, rate3, rate4, rate5, rate6, rate7, rate8, rate9, rate10, rate11}

-- the rows of the eleven tables
unfoldable pub printed : List (List (List ℕ))
printed = rate1 ∷ rate2 ∷ rate3 ∷ rate4 ∷ rate5 ∷ rate6 ∷ rate7 ∷ rate8 ∷ rate9 ∷ rate10 ∷ rate11 ∷ []

-- document 01, "Checks in the slot": "for each of the R rows a count .., then that many different addresses"
unfoldable pub form : List (List ℕ) → List ℕ
form [] = []
form (row ∷ rows) = length row ∷ (row ++ form rows)

-- the rows that stand at k in the list of tables, none past its end
unfoldable pub nth : List (List (List ℕ)) → ℕ → List (List ℕ)
nth [] k = []
nth (rows ∷ rest) zero = rows
nth (rows ∷ rest) (suc k) = nth rest k

-- the table of rate k + 1
unfoldable pub table_at : ℕ → List ℕ
table_at k = form (nth printed k)

-- the published table of a rate from 1 to 11
abbrev pub table_of : ℕ → List ℕ
table_of rate = table_at (rate - 1)

-- its length; 0 for any other number
unfoldable pub length_of : ℕ → ℕ
length_of rate = pick (rate_ok rate) (length (table_of rate)) 0

-- document 01, "Refusal list": 1 where the rate is unknown, then 4 where the area isn't exactly the table's length
unfoldable pub copy_number : ℕ → List ℕ → ℕ
copy_number rate area = and_then (pick (rate_ok rate) 0 PLAN) (pick (eqb (length area) (length (table_of rate))) 0 LENGTH)
