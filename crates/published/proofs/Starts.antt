-- Where the tables stand among all of them.
use mathlib.Core.Path.{◌≡◌, ap, ◌∙◌}
use mathlib.Core.List.{List}
use Prim.Native.Nat.{ℕ, ◌+◌, ◌-◌, ◌<◌, ◌≤◌}
use native.Mathlib.Omega.{arith}
use lib.ListN.{length, get_or}
use Rattle.lists.specs.Count.{table, joined}
use Rattle.lists.specs.CountLaws.{sum_more, sum_mono, get_or_table, joined_at, length_joined, joined_part}
use Rattle.lists.specs.Parts.{part}
use Rattle.published.specs.Published.{table_at}

-- a list that is, by one computation, that of the starts
pub start_at : (starts : List ℕ) → starts ≡ table 12 (joined_at table_at) → (k : ℕ) → k < 12 → get_or starts k 0 ≡ joined_at table_at k
start_at starts e k h = ap (λ (xs : List ℕ). get_or xs k 0) e ∙ get_or_table 12 (joined_at table_at) k h

-- the table at k lies between two starts
pub record Placed (tables : List ℕ) (k from to : ℕ) : Type 0 where
  pub order : from ≤ to
  pub within : to ≤ length tables
  pub long : to - from ≡ length (table_at k)
  pub there : part from to tables ≡ table_at k

pub placed : (tables : List ℕ) (k from to : ℕ) → tables ≡ joined 11 table_at → k < 11 → from ≡ joined_at table_at k → to ≡ joined_at table_at (k + 1) → Placed tables k from to
placed tables k from to e h f t =
    let m = sum_more k (λ i. length (table_at i)) in
    let n = sum_mono (k + 1) 11 (λ i. length (table_at i)) (omega arith) in
    record {
      order = omega arith;
      within = omega (arith, ap length e ∙ length_joined 11 table_at);
      long = omega arith;
      there = rw (e, f, t) (joined_part 11 table_at k h);
    }
