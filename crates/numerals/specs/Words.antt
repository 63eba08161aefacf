-- Numbers as text: mask and start are words of a command line.
use Rattle.std.specs.Prelude.{Bool, ◌&&◌, List, ℕ, Option, None, Some, eqb, leb, length, get_or, drop}
use Rattle.lists.specs.Choice.{pick}
use Rattle.lists.specs.Count.{every}
use Rattle.numerals.specs.Numerals.{is_digit, value_of}

-- whether octet k of a text is a digit of the base
abbrev pub digit_at : ℕ → List ℕ → ℕ → Bool
digit_at base text k = is_digit base (get_or text k 0)

-- a number of 32 bits
unfoldable pub said : ℕ → Option ℕ
said v = pick (leb v 4294967295) (Some v) None

-- the number that 1 to most digits of the base make
unfoldable pub number_in : ℕ → ℕ → List ℕ → Option ℕ
number_in base most text =
    pick (leb 1 (length text) && (leb (length text) most && every (length text) (digit_at base text))) (said (value_of base text 0 (length text))) None

-- whether a word goes on behind 0x
unfoldable pub hexadecimal : List ℕ → Bool
hexadecimal word = leb 3 (length word) && (eqb (get_or word 0 0) 48 && eqb (get_or word 1 0) 120)

-- a word: 0x and up to 8 hexadecimal digits, or up to 10 decimal ones
unfoldable pub number_text : List ℕ → Option ℕ
number_text word = pick (hexadecimal word) (number_in 16 8 (drop 2 word)) (number_in 10 10 word)
