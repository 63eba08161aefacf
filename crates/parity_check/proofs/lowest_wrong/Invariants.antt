-- `parity_check::lowest_wrong`: in the first rows the columns have the sums of the rows and addresses passed; in the
-- others the running sum was right at every position passed.
use mathlib.Core.Path.{◌≡◌}
use mathlib.Core.List.{List}
use Prim.Native.Nat.{ℕ, ◌+◌, ◌*◌, ◌-◌, min}
use Rattle.parity_table.specs.Tables.{row_start}
use Rattle.ldpc.specs.Parity.{spacing}
use Rattle.ldpc.specs.Stepping.{row_stepped, times_stepped}
use Rattle.ldpc.specs.Columns.{across}
use Rattle.ldpc.specs.Needs.{Added}
use Rattle.parity_check.proofs.Passing.{Passed}
use Rattle.parity_check.proofs.lowest_wrong.Given as goal

-- the columns and the parity positions passed, before row r of the slot
pub record AtRow (rows : ℕ) (table bits received found sums : List ℕ) (s last position place r : ℕ) : Type 0 where
  pub start : s ≡ row_start table (min r rows)
  pub adding : Added found sums (λ n. times_stepped (spacing rows) table bits (min r rows) (across (spacing rows) 374 n))
  pub reached : position ≡ 374 * (r - rows)
  pub passed : Passed rows table bits received last position place

-- the addresses of row r passed before address i
abbrev pub AtAddress : ℕ → List ℕ → List ℕ → List ℕ → ℕ → ℕ → List ℕ → ℕ → Type 0
AtAddress rows table bits found s r sums i = Added found sums (λ n. row_stepped (spacing rows) table bits (s + 1) i (374 * r) (across (spacing rows) 374 n))

-- the parity positions of a row passed before the k-th
pub record AtBit (rows : ℕ) (table bits received : List ℕ) (first last position place k : ℕ) : Type 0 where
  pub reached : position ≡ first + k
  pub passed : Passed rows table bits received last position place

abbrev pub invariant-loop-address : goal.invariant-loop-address
invariant-loop-address l = AtAddress l.rows l.table l.bits l.initial.sums l.s l.r l.sums l.address-index

abbrev pub invariant-loop : goal.invariant-loop
invariant-loop l = AtBit l.rows l.table l.bits l.received l.initial.position l.last l.position l.place l.counter

abbrev pub invariant-rows : goal.invariant-rows
invariant-rows l = AtRow l.rows l.table l.bits l.received l.initial.sums l.sums l.s l.last l.position l.place l.r
