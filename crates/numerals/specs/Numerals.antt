-- Digits, and the number that a run of them makes.
use Rattle.std.specs.Prelude.{Bool, ◌&&◌, List, ℕ, zero, suc, ◌+◌, ◌-◌, ◌*◌, leb, ltb, get_or}
use Rattle.lists.specs.Choice.{pick}

-- the value of the digit c: 0 to 9, a to f, A to F; 16 where it is none
unfoldable pub digit_of : ℕ → ℕ
digit_of c =
    pick (leb 48 c && leb c 57) (c - 48) (pick (leb 97 c && leb c 102) (c - 87) (pick (leb 65 c && leb c 70) (c - 55) 16))

-- whether c is a digit of the base: '0' to '9' where that is 10
abbrev pub is_digit : ℕ → ℕ → Bool
is_digit base c = ltb (digit_of c) base

-- the number that n digits from a place on make, the most significant first
unfoldable pub value_of : ℕ → List ℕ → ℕ → ℕ → ℕ
value_of base t at zero = 0
value_of base t at (suc n) = value_of base t at n * base + digit_of (get_or t (at + n) 0)
