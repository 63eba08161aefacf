-- A received word, read (document 01, "Refusal list"): 8 and 9 in this order; the tail is handed out, and with 8 the lowest
-- failing parity position (document 02, N7).
use Rattle.std.specs.Prelude.{◌≡◌, Bool, List, ◌++◌, ◌⊎◌, ℕ, ◌+◌, ◌%◌, ◌<◌, eqb, get_or, take, drop, Result, Ok, Err}
use Rattle.lists.specs.Choice.{pick, and_then}
use Rattle.lists.specs.Parts.{part}
use Rattle.refusal.specs.Numbers.{PARITY, BCH}
use Rattle.refusal.specs.Answers.{number}
use Rattle.refusal.specs.declared.Refusal.{Refusal}
use Rattle.refusal.specs.declared.Refusal.TheVariants.{Plan, Dummy, Full, Length, Table, Register, Sync, Parity, Bch, Tail, Label, Value, Order, Total, Packet, Block, Coordinate}
use Rattle.bits.specs.Octets.{bits_of, octets_of}
use Rattle.bits.specs.Same.{same}
use Rattle.bits.specs.Sums.{added}
use Rattle.dispersal.specs.Dispersal.{dispersed}
use Rattle.bch.specs.Bch.{bch_bits}
use Rattle.parity_table.specs.Tables.{positions}
use Rattle.ldpc.specs.Parity.{times, parity_of}
use Rattle.parity_check.specs.Check.{lowest_wrong}
use Rattle.codeword.specs.declared.Shape.{Shape}
use Rattle.codeword.specs.declared.WordAnswer.{WordAnswer}
use Rattle.codeword.specs.Words.{run_bits, parity_input, with_parity}

-- the bits before the parity, as received, and the parity bits behind them
abbrev pub run_in : Shape → List ℕ → List ℕ
run_in F c = take (run_bits F) (bits_of c)

abbrev pub parity_in : Shape → List ℕ → List ℕ
parity_in F c = drop (run_bits F) (bits_of c)

-- the first of them "after dispersal is taken off"
unfoldable pub taken_off : Shape → ℕ → ℕ → List ℕ → List ℕ
taken_off F mask r c = dispersed F.width mask r (run_in F c)

-- of these bits, message, BCH bits and tail
abbrev pub message_in : Shape → List ℕ → List ℕ
message_in F u = take F.message u

abbrev pub bch_in : Shape → List ℕ → List ℕ
bch_in F u = part F.message (F.message + 192) u

abbrev pub tail_in : Shape → List ℕ → List ℕ
tail_in F u = drop (F.message + 192) u

-- the lowest position at which the parity of a word is wrong, or M: "The parity check stops where the first wrong position
-- shows"
unfoldable pub wrong_position : Shape → List ℕ → List ℕ → ℕ
wrong_position F t c = lowest_wrong F.rows t (parity_input F (run_in F c)) (parity_in F c)

-- 8: "some LDPC parity bit is wrong", from the lowest wrong position
unfoldable pub parity_number : Shape → ℕ → ℕ
parity_number F wrong = pick (eqb wrong (positions F.rows)) 0 PARITY

-- document 02, N7: "(else 65535)"
abbrev pub no_position : ℕ
no_position = 65535

-- "With refusal 8 .. also .. the lowest failing parity position": beside an answer's number n, a position p
abbrev pub position_with : ℕ → ℕ → ℕ
position_with n p = pick (eqb n PARITY) p no_position

-- an answer of both
abbrev pub word_answer : ℕ → ℕ → WordAnswer
word_answer n p = record { number = n; position = position_with n p }

-- the same of what a call answers: the position that comes with its refusal
abbrev pub position_of : Refusal → ℕ
position_of (Parity p) = p
position_of Plan = no_position
position_of Dummy = no_position
position_of Full = no_position
position_of Length = no_position
position_of Table = no_position
position_of Register = no_position
position_of Sync = no_position
position_of Bch = no_position
position_of Tail = no_position
position_of Label = no_position
position_of Value = no_position
position_of Order = no_position
position_of Total = no_position
position_of Packet = no_position
position_of Block = no_position
position_of Coordinate = no_position

abbrev pub position : {A : Type 0} → Result A Refusal → ℕ
position (Ok x) = no_position
position (Err r) = position_of r

abbrev pub as_word_answer : {A : Type 0} → Result A Refusal → WordAnswer
as_word_answer r = record { number = number r; position = position r }

-- 9: "BCH bits wrong after dispersal is taken off"
unfoldable pub bch_right : Shape → List ℕ → Bool
bch_right F u = same (bch_bits (message_in F u)) (bch_in F u)

-- 8 and 9, from the lowest wrong position and the bits with dispersal taken off
unfoldable pub checks_number : Shape → ℕ → List ℕ → ℕ
checks_number F wrong u = and_then (parity_number F wrong) (pick (bch_right F u) 0 BCH)

-- those of a received word: "and in reading 8, 9", "or 8, 9"
unfoldable pub word_number : Shape → List ℕ → ℕ → ℕ → List ℕ → ℕ
word_number F t mask r c = checks_number F (wrong_position F t c) (taken_off F mask r c)

-- which are all its numbers
abbrev pub OfWord : ℕ → Type 0
OfWord n = (n ≡ 0) ⊎ (n ≡ PARITY) ⊎ (n ≡ BCH)

-- a word that has neither 8, "some LDPC parity bit is wrong", nor 9, "BCH bits wrong after dispersal is taken off"
pub record Good (F : Shape) (t : List ℕ) (mask r : ℕ) (c : List ℕ) : Type 0 where
  pub parity : parity_in F c ≡ parity_of F.rows t (parity_input F (run_in F c))
  pub bch : bch_in F (taken_off F mask r c) ≡ bch_bits (message_in F (taken_off F mask r c))

-- "the lowest failing parity position" of a received word: one of the M, at which the bit received is not that of the parity, and
-- before which every bit is
pub record Failing (F : Shape) (t c : List ℕ) (p : ℕ) : Type 0 where
  pub below : p < positions F.rows
  pub wrong : get_or (parity_in F c) p 0 ≡ get_or (parity_of F.rows t (parity_input F (run_in F c))) p 0 → ⊥
  pub right : (j : ℕ) → j < p → get_or (parity_in F c) j 0 ≡ get_or (parity_of F.rows t (parity_input F (run_in F c))) j 0

-- that a number n and a position p tell it of a received word: the lowest failing position with 8, "else 65535"
pub record PositionTold (F : Shape) (t c : List ℕ) (n p : ℕ) : Type 0 where
  pub failing : n ≡ PARITY → Failing F t c p
  pub none : (n ≡ PARITY → ⊥) → p ≡ no_position

-- document 02, N5: a received word with another tail e "there and its parity made anew": of the bits with dispersal taken off
-- those before the tail, and e; dispersed again, with the parity of that
unfoldable pub with_tail : Shape → List ℕ → ℕ → ℕ → List ℕ → List ℕ → List ℕ
with_tail F t mask r c e =
    octets_of F.octets (with_parity F t (dispersed F.width mask r (take (F.message + 192) (taken_off F mask r c) ++ e)))

-- "the differing bits reach each position an even number of times": those of two words' parity inputs, as sent
abbrev pub EvenTimes : Shape → List ℕ → List ℕ → List ℕ → Type 0
EvenTimes F t c d =
    (j : ℕ) → j < positions F.rows → times F.rows t (added (parity_input F (run_in F c)) (parity_input F (run_in F d))) j % 2 ≡ 0
