-- What the functions ask of their arguments.
use Rattle.std.specs.Prelude.{◌≡◌, true, List, ℕ, ◌+◌, ◌≤◌, ◌<◌, get_or}
use Rattle.numerals.specs.Numerals.{is_digit}

-- n digits of a base from a place on, so few that no sum of theirs is too wide
pub record Digits (base : ℕ) (text : List ℕ) (at n : ℕ) : Type 0 where
  pub small : base ≤ 16
  pub few : n ≤ 10
  pub near : at ≤ 65536
  pub right : (k : ℕ) → k < n → is_digit base (get_or text (at + k) 0) ≡ true

-- a base, and at most so many digits that no sum of theirs is too wide
pub record Base (base most : ℕ) : Type 0 where
  pub small : base ≤ 16
  pub few : most ≤ 10
