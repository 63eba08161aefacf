-- Parity (document 01, "Checks in the slot" and "What demand 3 compares"). Bits are 0 or 1, in runs of 374 for each row.
use Rattle.std.specs.Prelude.{◌≡◌, List, ℕ, zero, suc, ◌+◌, ◌*◌, ◌-◌, ◌%◌, ◌<◌, ◌≤◌, eqb, get_or}
use Rattle.lists.specs.Choice.{pick}
use Rattle.lists.specs.Count.{sum, table}
use Rattle.parity_table.specs.Tables.{positions, row_start}

-- q of document 01: "q = 120 − R"
abbrev pub spacing : ℕ → ℕ
spacing rows = 120 - rows

-- "(address + m × q) mod M"
abbrev pub position : ℕ → ℕ → ℕ → ℕ
position rows a m = (a + m * spacing rows) % positions rows

-- how often bit m of a row, of value b, reaches position j through the n addresses of t from `from` on ("A bit reaches a
-- position once for each address of its row that adds it there")
unfoldable pub bit_times : ℕ → List ℕ → ℕ → ℕ → ℕ → ℕ → ℕ → ℕ
bit_times rows t from n m b j = sum n (λ i. pick (eqb (position rows (get_or t (from + i) 0) m) j) b 0)

-- how often the n bits of u from base on, one row's, reach position j through the c addresses of t from `from` on
unfoldable pub row_times : ℕ → List ℕ → List ℕ → ℕ → ℕ → ℕ → ℕ → ℕ → ℕ
row_times rows t u from c base n j = sum n (λ m. bit_times rows t from c m (get_or u (base + m) 0) j)

-- how often the bits of the first n rows reach position j ("Bit 374 × r + m .. for each address of row r")
unfoldable pub times_to : ℕ → List ℕ → List ℕ → ℕ → ℕ → ℕ
times_to rows t u n j = sum n (λ r. row_times rows t u (row_start t r + 1) (get_or t (row_start t r) 0) (374 * r) 374 j)

-- how often the set bits of u reach position j
abbrev pub times : ℕ → List ℕ → List ℕ → ℕ → ℕ
times rows t u j = times_to rows t u rows j

-- "Then each parity bit from the second on adds the one before it"
unfoldable pub running : (ℕ → ℕ) → ℕ → ℕ
running f zero = f zero % 2
running f (suc j) = (f (suc j) + running f j) % 2

-- the parity bits of u
unfoldable pub parity_of : ℕ → List ℕ → List ℕ → List ℕ
parity_of rows t u = table (positions rows) (running (times rows t u))

-- document 01, "Worked by hand": a run in which only bit m is set, one of the first row, and a table whose first row has
-- one address, a
pub record Only (rows : ℕ) (t u : List ℕ) (m a : ℕ) : Type 0 where
  pub some : 1 ≤ rows
  pub first_row : m < 374
  pub set : get_or u m 0 ≡ 1
  pub clear : (k : ℕ) → (k ≡ m → ⊥) → get_or u k 0 ≡ 0
  pub one : get_or t 0 0 ≡ 1
  pub address : get_or t 1 0 ≡ a
  pub below : a < positions rows
