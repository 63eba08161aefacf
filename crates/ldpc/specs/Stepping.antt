-- Parity by steps (document 02, N3): no position is computed, each is stepped to from the one before it. With q = 120 − R
-- there are M = 374 × q positions.
use Rattle.std.specs.Prelude.{List, ℕ, zero, suc, ◌+◌, ◌*◌, ◌-◌, eqb, leb, get_or}
use Rattle.lists.specs.Choice.{pick}
use Rattle.lists.specs.Count.{sum, table}
use Rattle.lists.specs.Parts.{part}
use Rattle.parity_table.specs.Tables.{positions, row_start}
use Rattle.ldpc.specs.Parity.{spacing, running}

-- "step by q and subtract M when it is reached": from p, with m for M
abbrev pub step_on : ℕ → ℕ → ℕ → ℕ
step_on q m p = pick (leb m (p + q)) (p + q - m) (p + q)

-- n steps on from a; for an address ("each position stepped to"), the position of bit n of its row
unfoldable pub stepped : ℕ → ℕ → ℕ → ℕ → ℕ
stepped q m a zero = a
stepped q m a (suc n) = step_on q m (stepped q m a n)

-- how often the 374 bits of a row reach position j through the address a: each reaches the position stepped to and no other
-- (document 01: "A bit reaches a position once for each address of its row that adds it there")
unfoldable pub address_times : ℕ → List ℕ → ℕ → ℕ → ℕ
address_times q row a j = sum 374 (λ n. pick (eqb (stepped q (374 * q) a n) j) (get_or row n 0) 0)

-- how often a row's bits, those of u from base on, reach it through the c addresses of t from `from` on (document 01: "for
-- each address of row r")
unfoldable pub row_stepped : ℕ → List ℕ → List ℕ → ℕ → ℕ → ℕ → ℕ → ℕ
row_stepped q t u from c base j = sum c (λ i. address_times q (part base (base + 374) u) (get_or t (from + i) 0) j)

-- how often the bits of the first n rows reach it, each row's through its own addresses (document 01: "Bit 374 × r + m")
unfoldable pub times_stepped : ℕ → List ℕ → List ℕ → ℕ → ℕ → ℕ
times_stepped q t u n j = sum n (λ r. row_stepped q t u (row_start t r + 1) (get_or t (row_start t r) 0) (374 * r) j)

-- the parity bits of u (document 01: "Then each parity bit from the second on adds the one before it")
unfoldable pub parity_stepped : ℕ → List ℕ → List ℕ → List ℕ
parity_stepped rows t u = table (positions rows) (running (times_stepped (spacing rows) t u rows))
