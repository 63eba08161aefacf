-- What the functions ask of their arguments.
use Rattle.std.specs.Prelude.{List, ℕ, ◌+◌, ◌≤◌, length}

-- room for n octets from a place on
pub record Room (n at : ℕ) (area : List ℕ) : Type 0 where
  pub room : at + n ≤ length area

-- a number of at most three digits, with room for it and a space
pub record Number (n at : ℕ) (area : List ℕ) : Type 0 where
  pub small : n ≤ 999
  pub room : at + 4 ≤ length area
