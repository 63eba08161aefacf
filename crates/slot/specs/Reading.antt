-- A received slot, read (document 01, "Refusal list", as document 02, N5 and N7, amends it): 8 and 9 in this order, the stuff
-- bits, and where parity broke.
use Rattle.std.specs.Prelude.{List, ℕ, eqb, take, drop, Result, Ok, Err}
use Rattle.lists.specs.Choice.{pick}
use Rattle.refusal.specs.Answers.{number as refusalNumber}
use Rattle.refusal.specs.declared.Refusal.{Refusal}
use Rattle.bits.specs.Digits.{number}
use Rattle.bits.specs.Octets.{bits_of, octets_of}
use Rattle.codeword.specs.declared.WordAnswer.{WordAnswer}
use Rattle.codeword.specs.Reading.{taken_off, message_in, tail_in, wrong_position, parity_number, no_position, position, word_answer, word_number, OfWord, with_tail}
use Rattle.plan.specs.declared.FrameState.{FrameState}
use Rattle.slot.specs.declared.SlotRead.{SlotRead}
use Rattle.slot.specs.declared.SlotReading.{SlotReading}
use Rattle.slot.specs.Slots.{source_octets, covered_bits, stuff_bits, slot_shape}

-- "The bits before the parity are the first 374 × R of a slot, as sent", and "the last M bits"
abbrev pub covered : ℕ → List ℕ → List ℕ
covered R c = take (covered_bits R) (bits_of c)

abbrev pub parity : ℕ → List ℕ → List ℕ
parity R c = drop (covered_bits R) (bits_of c)

-- 8 and 9 are a codeword's, and document 02, N5, has no 10: "The reader accepts any six stuff bits .."
unfoldable pub received_number : ℕ → List ℕ → ℕ → ℕ → List ℕ → ℕ
received_number R t mask r c = word_number (slot_shape R) t mask r c

-- ".. and returns them as a number from 0 to 63, first bit the highest"
unfoldable pub stuff_in : ℕ → ℕ → ℕ → List ℕ → ℕ
stuff_in R mask r c = number 6 (tail_in (slot_shape R) (taken_off (slot_shape R) mask r c))

-- "(255 with a refusal)"
abbrev pub no_stuff : ℕ
no_stuff = 255

-- beside a reading's number n, stuff bits x
abbrev pub stuff_with : ℕ → ℕ → ℕ
stuff_with n x = pick (eqb n 0) x no_stuff

-- an answer that has neither stuff bits nor a failing position
abbrev pub not_read : ℕ → FrameState → SlotRead
not_read n s = record { number = n; state = s; stuff = no_stuff; position = no_position }

-- what reading answers, a state and stuff bits or a refusal, as number, state, stuff bits and position
abbrev pub stuff_of : Result ℕ Refusal → ℕ
stuff_of (Ok x) = x
stuff_of (Err r) = no_stuff

abbrev pub as_slot_read : SlotReading → SlotRead
as_slot_read a = record { number = refusalNumber a.stuff; state = a.state; stuff = stuff_of a.stuff; position = position a.stuff }

-- six ones: "the same slot only where that number is 63"
abbrev pub stuff_ones : ℕ
stuff_ones = 63

-- "for other numbers it gives the slot with ones there and its parity made anew"
abbrev pub with_ones : ℕ → List ℕ → ℕ → ℕ → List ℕ → List ℕ
with_ones R t mask r c = with_tail (slot_shape R) t mask r c stuff_bits

-- header and data octets of a received slot
unfoldable pub source_of : ℕ → ℕ → ℕ → List ℕ → List ℕ
source_of R mask r c = octets_of (source_octets R) (message_in (slot_shape R) (taken_off (slot_shape R) mask r c))

-- "the lowest failing parity position" (document 02, N7), or M
unfoldable pub failing_in : ℕ → List ℕ → List ℕ → ℕ
failing_in R t c = wrong_position (slot_shape R) t c

-- 8 alone, whatever the slot's dispersal
unfoldable pub checked_number : ℕ → List ℕ → List ℕ → ℕ
checked_number R t c = parity_number (slot_shape R) (wrong_position (slot_shape R) t c)

-- with where the parity broke
abbrev pub checked_answer : ℕ → List ℕ → List ℕ → WordAnswer
checked_answer R t c = word_answer (checked_number R t c) (failing_in R t c)

-- the numbers with which a reading moves on: 0, and "8, 9 .. move the slot reader on one place"
abbrev pub MovesOn : ℕ → Type 0
MovesOn n = OfWord n
