-- Which bit stands where in a symbol (document 01, "Symbols"; the Ministry's 2.2.1.7, Tables 2.2.1-6 and 2.2.1-7): s symbols
-- of m bits each are s rows of m places, place 0 read first.
use Rattle.std.specs.Prelude.{Bool, ◌&&◌, ◌||◌, ℕ, ◌+◌, ◌-◌, ◌*◌, ◌/◌, ◌%◌, leb, eqb}
use Rattle.lists.specs.Choice.{pick}

-- "QPSK and BPSK take bits in order"
abbrev pub in_order : ℕ → Bool
in_order m = leb m 2

-- "Rates 1 and 2 read right to left, as does rate 7 under 32APSK; all else left to right"
unfoldable pub right_to_left : ℕ → ℕ → Bool
right_to_left m rate = leb rate 2 || (eqb rate 7 && eqb m 5)

-- the column of place k, from the left; leftward is for a row read right to left
abbrev pub column_of : ℕ → Bool → ℕ → ℕ
column_of m leftward k = pick leftward (m - 1 - k) k

-- the bit at place k of row r: in order, or "written down the columns and read by rows"
unfoldable pub bit_at : ℕ → ℕ → Bool → ℕ → ℕ → ℕ
bit_at m s leftward r k = pick (in_order m) (r * m + k) (column_of m leftward k * s + r)

-- how far apart the bits of one place lie in rows that follow each other
unfoldable pub stride_of : ℕ → ℕ
stride_of m = pick (in_order m) m 1

-- the row of bit j, and its place there
unfoldable pub row_of : ℕ → ℕ → ℕ → ℕ
row_of m s j = pick (in_order m) (j / m) (j % s)

unfoldable pub place_of : ℕ → ℕ → Bool → ℕ → ℕ
place_of m s leftward j = pick (in_order m) (j % m) (column_of m leftward (j / s))
