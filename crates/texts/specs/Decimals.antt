-- Decimal numbers as octets.
use Rattle.std.specs.Prelude.{List, [], ◌∷◌, ◌++◌, ℕ, ◌+◌, ◌/◌, ◌%◌, ltb}
use Rattle.lists.specs.Choice.{pick}
use Rattle.texts.specs.Characters.{SPACE, ZERO}

-- a number below 1000 in decimal, with no leading zero
unfoldable pub decimal : ℕ → List ℕ
decimal n =
    pick (ltb n 10) ((ZERO + n) ∷ [])
    (pick (ltb n 100) ((ZERO + n / 10) ∷ (ZERO + n % 10) ∷ [])
    ((ZERO + n / 100) ∷ (ZERO + n / 10 % 10) ∷ (ZERO + n % 10) ∷ []))

-- "one space between fields"
unfoldable pub field : ℕ → List ℕ
field n = decimal n ++ (SPACE ∷ [])
