-- The form of a parity table (document 01, "Checks in the slot": "The parity table is a lent list of 16-bit numbers").
use Rattle.std.specs.Prelude.{Bool, not, ◌&&◌, List, ℕ, zero, suc, ◌+◌, ◌*◌, ◌-◌, eqb, ltb, leb, length, get_or}
use Rattle.lists.specs.Choice.{pick}
use Rattle.lists.specs.Count.{every}

-- M of document 01, the number of parity positions: "M = 374 × (120 − R)"
abbrev pub positions : ℕ → ℕ
positions rows = 374 * (120 - rows)

-- where row r of the table t stands: each row is its count and as many addresses
unfoldable pub row_start : List ℕ → ℕ → ℕ
row_start t zero = 0
row_start t (suc r) = row_start t r + 1 + get_or t (row_start t r) 0

-- "different addresses below M": the address at from + i is below m, and none of the i before it is the same
unfoldable pub address_ok : ℕ → List ℕ → ℕ → ℕ → Bool
address_ok m t from i = ltb (get_or t (from + i) 0) m && every i (λ k. not (eqb (get_or t (from + k) 0) (get_or t (from + i) 0)))

-- "a count from 1 to 16, then that many different addresses": such a row stands in t at s
unfoldable pub row_ok : ℕ → List ℕ → ℕ → Bool
row_ok m t s =
    ltb s (length t)
    && (leb 1 (get_or t s 0)
    && (leb (get_or t s 0) 16
    && (leb (s + 1 + get_or t s 0) (length t)
    && every (get_or t s 0) (address_ok m t (s + 1)))))

-- "for each of the R rows": they stand at the head of t
unfoldable pub rows_ok : ℕ → List ℕ → Bool
rows_ok rows t = every rows (λ r. row_ok (positions rows) t (row_start t r))

-- "nothing follows"
unfoldable pub table_ok : ℕ → List ℕ → Bool
table_ok rows t = rows_ok rows t && eqb (row_start t rows) (length t)

-- the length of the accepted table at the head of a list, where one stands, else 0 (document 01: "In a
-- whole-frame call the groups' tables follow each other")
unfoldable pub table_length : ℕ → List ℕ → ℕ
table_length rows t = pick (rows_ok rows t) (row_start t rows) 0
