-- The calls on a TMCC block (document 01, "Refusal list"): "TMCC: 6, 4, 5, then 11, or 8, 9".
use Rattle.std.specs.Prelude.{Bool, List, ℕ, eqb, drop}
use Rattle.lists.specs.Choice.{pick, and_then}
use Rattle.refusal.specs.Numbers.{REGISTER, TAIL}
use Rattle.bits.specs.Digits.{number}
use Rattle.bits.specs.Octets.{bits_of}
use Rattle.dispersal.specs.Register.{settings_ok}
use Rattle.plan.specs.Sizes.{block_width}
use Rattle.codeword.specs.declared.WordAnswer.{WordAnswer}
use Rattle.codeword.specs.Calls.{lent_number as wordLentNumber}
use Rattle.codeword.specs.Reading.{wrong_position, word_answer, word_number}
use Rattle.tmcc.specs.Blocks.{source_octets, message_bits, block_shape}

-- "6, 4, 5": the settings, the 1,178 and the 3,960 octets, and the parity table
unfoldable pub lent_number : ℕ → ℕ → List ℕ → List ℕ → List ℕ → ℕ
lent_number mask start t source block =
    and_then (pick (settings_ok block_width mask start) 0 REGISTER) (wordLentNumber block_shape source_octets t source block)

-- 11: "one of the last two TMCC bits is 1", the two as a number
unfoldable pub tail_ok : List ℕ → Bool
tail_ok source = eqb (number 2 (drop message_bits (bits_of source))) 0

-- "then 11"
unfoldable pub code_number : ℕ → ℕ → List ℕ → List ℕ → List ℕ → ℕ
code_number mask start t source block = and_then (lent_number mask start t source block) (pick (tail_ok source) 0 TAIL)

-- "or 8, 9"
unfoldable pub read_number : ℕ → ℕ → List ℕ → List ℕ → List ℕ → ℕ
read_number mask start t block source = and_then (lent_number mask start t source block) (word_number block_shape t mask start block)

-- with where the parity broke (document 02, N7)
unfoldable pub read_answer : ℕ → ℕ → List ℕ → List ℕ → List ℕ → WordAnswer
read_answer mask start t block source = word_answer (read_number mask start t block source) (wrong_position block_shape t block)
