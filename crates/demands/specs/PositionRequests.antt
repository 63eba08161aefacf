-- What document 02, N7, asks of failing parity positions, as statements over the definitions that the contracts of the public
-- entries cite.
use Rattle.std.specs.Prelude.{◌≡◌, List, ℕ, ◌+◌, ◌<◌, length, get_or}
use Rattle.plan.specs.declared.Plan.{Plan}
use Rattle.plan.specs.declared.FrameState.{FrameState}
use Rattle.plan.specs.Rates.{rows_of}
use Rattle.plan.specs.Places.{group_at}
use Rattle.codeword.specs.declared.Shape.{Shape}
use Rattle.codeword.specs.Reading.{no_position, Failing, PositionTold}
use Rattle.slot.specs.Slots.{slot_shape}
use Rattle.slot.specs.Calls.{rows_at, read_answer, check_answer}
use Rattle.tmcc.specs.Blocks.{block_shape}
use Rattle.tmcc.specs.Calls.{read_answer as readBlockAnswer}
use Rattle.frame.specs.Tables.{table_of}
use Rattle.frame.specs.Frames.{rows_of_slot, slot_in, answers_of, positions_of}

-- "With refusal 8 the parity check .. also give[s] the lowest failing parity position (else 65535)": p below M, the bit received
-- there not the parity's, every one before it the parity's
abbrev pub CheckPositionTold : Type 0
CheckPositionTold =
    (rate : ℕ) (t coded : List ℕ)
    → PositionTold (slot_shape (rows_of rate)) t coded (check_answer rate t coded).number (check_answer rate t coded).position

-- "the slot reader"
abbrev pub SlotPositionTold : Type 0
SlotPositionTold =
    (s : FrameState) (t coded source : List ℕ)
    → PositionTold (slot_shape (rows_at s)) t coded (read_answer s t coded source).number (read_answer s t coded source).position

-- "the whole-frame reader": "Another lent list of 120 numbers of 16 bits takes them in the whole-frame call, 65535 where the slot's
-- answer isn't 8"
abbrev pub FramePositionsTold : Type 0
FramePositionsTold =
    (p : Plan) (ts : List ℕ) (mask start : ℕ) (frame : List ℕ)
    → (length (positions_of p ts mask start frame) ≡ 120)
    × ((k : ℕ) → k < 120
    → PositionTold (slot_shape (rows_of_slot p (k + 1))) (table_of p ts (group_at p (k + 1))) (slot_in frame k)
    (get_or (answers_of p ts mask start frame) k 0) (get_or (positions_of p ts mask start frame) k 0))

-- "and the TMCC reader"
abbrev pub BlockPositionTold : Type 0
BlockPositionTold =
    (mask start : ℕ) (t block source : List ℕ)
    → PositionTold block_shape t block (readBlockAnswer mask start t block source).number (readBlockAnswer mask start t block source).position

-- "the lowest": a received word has one at most, ..
abbrev pub FailingOne : Type 0
FailingOne = (F : Shape) (t c : List ℕ) (p q : ℕ) → Failing F t c p → Failing F t c q → p ≡ q

-- .. and it is never taken for "65535"
abbrev pub FailingBelow : Type 0
FailingBelow = (F : Shape) (t c : List ℕ) (p : ℕ) → Failing F t c p → p < no_position
