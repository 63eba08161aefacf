-- Sums that stand in columns while bits are added. With q = 120 − R the M positions are q columns of 374 places, and
-- position q × j + c stands in place j of column c: bit m of a row adds to the place m further on in the same column.
use Rattle.std.specs.Prelude.{List, ◌++◌, ℕ, ◌+◌, ◌*◌, ◌-◌, ◌%◌, ◌/◌, get_or, take, drop}

-- a field is a wide and b high: what is number n counted down its columns is this number counted along its rows. So
-- `across q 374 n` is the position that stands at n in the columns, and position p stands there at `across 374 q p`
abbrev pub across : ℕ → ℕ → ℕ → ℕ
across a b n = a * (n % b) + n / b

-- the sum of position p, in the columns
abbrev pub sum_at : ℕ → List ℕ → ℕ → ℕ
sum_at q columns p = get_or columns (across 374 q p) 0

-- the 374 bits of a row turned by n places: bit m at n + m, less 374 when that is reached
abbrev pub turned : ℕ → List ℕ → List ℕ
turned n row = drop (374 - n) row ++ take (374 - n) row
