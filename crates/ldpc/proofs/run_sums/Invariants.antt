-- `ldpc::run_sums`: the sums passed are running sums; the last one is carried on, and the place is that of the position.
use mathlib.Core.Path.{◌≡◌}
use mathlib.Core.List.{List}
use Prim.Native.Nat.{ℕ, ◌+◌, ◌*◌, ◌%◌, ◌<◌}
use lib.ListN.{length, get_or}
use Rattle.lists.specs.Count.{sum}
use Rattle.ldpc.specs.Parity.{running}
use Rattle.ldpc.specs.Columns.{sum_at}
use Rattle.ldpc.proofs.run_sums.Given as goal

-- the positions passed
pub record Run (q : ℕ) (columns sums : List ℕ) (last position : ℕ) : Type 0 where
  pub same : length sums ≡ 374 * q
  pub done : (k : ℕ) → k < position → get_or sums k 0 ≡ running (sum_at q columns) k
  pub carried : last ≡ sum position (sum_at q columns) % 2

-- before position q × j + c
pub record Inner (q : ℕ) (columns : List ℕ) (j : ℕ) (sums : List ℕ) (last position place c : ℕ) : Type 0 where
  pub run : Run q columns sums last position
  pub reached : position ≡ q * j + c
  pub stands : place ≡ 374 * c + j

abbrev pub invariant-loop : goal.invariant-loop
invariant-loop l = Inner l.q l.columns l.j l.sums l.last l.position l.place l.counter

abbrev pub invariant-loop-j : goal.invariant-loop-j
invariant-loop-j l = Run l.q l.columns l.sums l.last l.position × (l.position ≡ l.q * l.j)
