-- An area that a loop fills from the front with a list, its goal. Every such loop has this record for its invariant.
use Rattle.std.specs.Prelude.{◌≡◌, List, ◌++◌, ℕ, ◌≤◌, length, take, drop}

-- the first i elements are the goal's, the others those found; the length is kept for the index facts
pub record Filling {A : Type 0} (goal found : List A) (i : ℕ) (area : List A) : Type 0 where
  pub long : length goal ≡ length found
  pub within : i ≤ length found
  pub same : length area ≡ length found
  pub done : area ≡ take i goal ++ drop i found
