-- What the code works with: a remainder in three words, and the constant table.
use Rattle.std.specs.Prelude.{◌≡◌, List, map, ℕ, ◌+◌, ◌*◌, ◌^◌}
use Rattle.lists.specs.Count.{table}
use Rattle.bch.specs.Division.{remainder}
use Rattle.bch.specs.Bch.{generator}
use Rattle.bch.specs.declared.division.Words.{Words}

-- the number that three words of 64 bits make
abbrev pub in_words : ℕ → ℕ → ℕ → ℕ
in_words high middle low = (high * 2 ^ 64 + middle) * 2 ^ 64 + low

-- the polynomial that a value of the code stands for
abbrev pub worth : Words → ℕ
worth w = in_words w.high w.middle w.low

-- the table has for each octet the remainder of its eight bits as a message
pub record Table (t : List Words) : Type 0 where
  pub rule : map worth t ≡ table 256 (λ i. remainder 192 generator 8 (i * 2 ^ 192))
