-- Laws of numbers as text.
use Rattle.std.specs.Prelude.{◌≡◌, true, List, ℕ, ◌≤◌, leb, length}
use Rattle.std.proofs.Common.{leb-true}
use Rattle.lists.specs.ChoiceLaws.{and_left}
use Rattle.numerals.specs.Words.{hexadecimal}

-- behind 0x there is something
pub hexadecimal_long : (word : List ℕ) → hexadecimal word ≡ true → 3 ≤ length word
unfolding hexadecimal
hexadecimal_long word h = leb-true 3 (length word) (and_left (leb 3 (length word)) _ h)
