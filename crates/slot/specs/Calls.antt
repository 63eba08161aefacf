-- The calls on a slot (document 01, "Refusal list"): their numbers, states and areas.
use Rattle.std.specs.Prelude.{◌≡◌, List, ◌↔◌, ℕ, eqb, length}
use Rattle.lists.specs.Choice.{pick, and_then}
use Rattle.refusal.specs.Numbers.{PLAN, DUMMY, LENGTH, TABLE}
use Rattle.parity_table.specs.Tables.{table_ok}
use Rattle.plan.specs.Records.{plan_in}
use Rattle.plan.specs.declared.FrameState.{FrameState}
use Rattle.plan.specs.declared.Answer.{Answer}
use Rattle.plan.specs.Rates.{rate_ok, rows_of}
use Rattle.plan.specs.Sizes.{slot_octets}
use Rattle.plan.specs.Plans.{rate_of}
use Rattle.plan.specs.Places.{group_at, carries}
use Rattle.plan.specs.States.{moved_on, answer, state_number}
use Rattle.codeword.specs.declared.WordAnswer.{WordAnswer}
use Rattle.codeword.specs.Calls.{lent_number as wordLentNumber}
use Rattle.codeword.specs.Reading.{position_with, word_answer}
use Rattle.slot.specs.Slots.{source_octets, slot_shape, slot_of, register_after}
use Rattle.slot.specs.declared.SlotRead.{SlotRead}
use Rattle.slot.specs.Reading.{received_number, stuff_in, stuff_with, stuff_ones, with_ones, source_of, failing_in, checked_number}

-- the rows of the parity table at the place of the state's next slot
unfoldable pub rows_at : FrameState → ℕ
rows_at s = rows_of (rate_of (plan_in s) (group_at (plan_in s) s.slot))

-- "Slot calls: 1, 6 .., 3, 2", the first three those of the state: "data call at a dummy"
unfoldable pub data_number : FrameState → ℕ
data_number s = and_then (state_number s) (pick (carries (plan_in s) s.slot) 0 DUMMY)

-- ", 4, 5": header and data octets, the slot's 5,610 octets, and the parity table
abbrev pub lent_number : ℕ → List ℕ → List ℕ → List ℕ → ℕ
lent_number R t source coded = wordLentNumber (slot_shape R) (source_octets R) t source coded

unfoldable pub slot_number : FrameState → List ℕ → List ℕ → List ℕ → ℕ
slot_number s t source coded = and_then (data_number s) (lent_number (rows_at s) t source coded)

-- "Coding or reading a data slot .. moves on by one", with the register stepped over what is dispersed
abbrev pub next_state : FrameState → FrameState
next_state s = moved_on s (register_after (rows_at s) s.mask s.register)

-- coding a slot: number and state, and the coded octets
unfoldable pub code_answer : FrameState → List ℕ → List ℕ → List ℕ → Answer
code_answer s t source coded = answer (slot_number s t source coded) (next_state s) s

unfoldable pub code_area : FrameState → List ℕ → List ℕ → List ℕ → List ℕ
code_area s t source coded =
    pick (eqb (slot_number s t source coded) 0) (slot_of (rows_at s) t s.mask s.register source) coded

-- ", and in reading 8, 9"
unfoldable pub read_number : FrameState → List ℕ → List ℕ → List ℕ → ℕ
read_number s t coded source =
    and_then (slot_number s t source coded) (received_number (rows_at s) t s.mask s.register coded)

-- reading a slot: "8, 9 .. move the slot reader on one place with the register stepped as for a good slot"; with its stuff bits
-- (document 02, N5) and where its parity broke (N7)
unfoldable pub read_answer : FrameState → List ℕ → List ℕ → List ℕ → SlotRead
read_answer s t coded source =
    record {
      number = read_number s t coded source;
      state = pick (eqb (slot_number s t source coded) 0) (next_state s) s;
      stuff = stuff_with (read_number s t coded source) (stuff_in (rows_at s) s.mask s.register coded);
      position = position_with (read_number s t coded source) (failing_in (rows_at s) t coded);
    }

unfoldable pub read_area : FrameState → List ℕ → List ℕ → List ℕ → List ℕ
read_area s t coded source =
    pick (eqb (read_number s t coded source) 0) (source_of (rows_at s) s.mask s.register coded) source

-- "Lone parity check: 1, 4, 5": what is tested before the parity
unfoldable pub form_number : ℕ → List ℕ → List ℕ → ℕ
form_number rate t coded =
    and_then (pick (rate_ok rate) 0 PLAN)
    (and_then (pick (eqb (length coded) slot_octets) 0 LENGTH)
    (pick (table_ok (rows_of rate) t) 0 TABLE))

-- "Lone parity check: 1, 4, 5, 8"
unfoldable pub check_number : ℕ → List ℕ → List ℕ → ℕ
check_number rate t coded = and_then (form_number rate t coded) (checked_number (rows_of rate) t coded)

-- with where the parity broke (document 02, N7)
unfoldable pub check_answer : ℕ → List ℕ → List ℕ → WordAnswer
check_answer rate t coded = word_answer (check_number rate t coded) (failing_in (rows_of rate) t coded)

-- that a reading answers 0 with this state and these stuff bits, and leaves these octets in its area
pub record Reads (a : SlotRead) (area : List ℕ) (next : FrameState) (stuff : ℕ) (octets : List ℕ) : Type 0 where
  pub number : a.number ≡ 0
  pub state : a.state ≡ next
  pub stuff_is : a.stuff ≡ stuff
  pub octets_are : area ≡ octets

-- that d is the slot c again, coded back from what was read of it with these stuff bits: "the same slot only where that number is
-- 63", and in every case "the slot with ones there and its parity made anew"
pub record CodedAgain (R : ℕ) (t : List ℕ) (mask r stuff : ℕ) (c d : List ℕ) : Type 0 where
  pub same : (d ≡ c) ↔ (stuff ≡ stuff_ones)
  pub anew : d ≡ with_ones R t mask r c

-- that the coding call which codes back what was read of the slot c answers 0 with the reading's state, and leaves c again
pub record CodedBack (s : FrameState) (t : List ℕ) (read : SlotRead) (a : Answer) (c area : List ℕ) : Type 0 where
  pub number : a.number ≡ 0
  pub state : a.state ≡ read.state
  pub slot : CodedAgain (rows_at s) t s.mask s.register read.stuff c area
