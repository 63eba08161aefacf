-- Division of polynomials over GF(2), by a g of degree n.
use Rattle.std.specs.Prelude.{List, ℕ, zero, suc, ◌+◌, ◌*◌, ◌^◌, ◌<◌, length}
use Rattle.bch.specs.Polynomials.{◌⊕◌, coefficient, Divides, polynomial_of}

-- document 002, 2.2.1.4 (1): the division with g as the divisor, and its remainder. Long division of d, of a degree
-- below n + k: each term from the power n + k - 1 down to n is taken off by a multiple of g
unfoldable pub remainder : ℕ → ℕ → ℕ → ℕ → ℕ
remainder n g zero d = d
remainder n g (suc k) d = remainder n g k (coefficient (n + k) d * (g * 2 ^ k) ⊕ d)

-- what makes r the remainder of d
pub record IsRemainder (n g d r : ℕ) : Type 0 where
  pub small : r < 2 ^ n
  pub divides : Divides g (d ⊕ r)

-- document 01, "Checks in the slot": "the remainder, on division by the generator, of message times the 192nd
-- power", for a generator g of degree n
unfoldable pub remainder_of : ℕ → ℕ → List ℕ → ℕ
remainder_of n g m = remainder n g (length m) (polynomial_of m * 2 ^ n)
