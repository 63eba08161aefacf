-- Laws of the failing positions that reading a slot and checking its parity tell (document 02, N7).
use Rattle.std.specs.Prelude.{refl, List, ℕ}
use Rattle.plan.specs.declared.FrameState.{FrameState}
use Rattle.plan.specs.Rates.{rows_of}
use Rattle.codeword.proofs.AnswerLaws.{position_told}
use Rattle.codeword.specs.Reading.{PositionTold, position_with}
use Rattle.codeword.proofs.ReadingLaws.{word_parity}
use Rattle.slot.specs.Slots.{slot_shape}
use Rattle.slot.specs.Reading.{received_number, failing_in, checked_number}
use Rattle.slot.specs.Calls.{rows_at, read_number, read_answer, check_number, check_answer}
use Rattle.slot.proofs.CallLaws.{slot_earlier, form_earlier}

pub received_told : (R : ℕ) (t : List ℕ) (mask r : ℕ) (c : List ℕ) → PositionTold (slot_shape R) t c (received_number R t mask r c) (position_with (received_number R t mask r c) (failing_in R t c))
unfolding received_number failing_in
received_told R t mask r c = position_told (slot_shape R) t c 0 _ (λ m. refl) (word_parity (slot_shape R) t mask r c)

pub read_told : (s : FrameState) (t coded source : List ℕ) → PositionTold (slot_shape (rows_at s)) t coded (read_answer s t coded source).number (read_answer s t coded source).position
unfolding read_answer read_number received_number failing_in
read_told s t coded source =
    position_told (slot_shape (rows_at s)) t coded _ _ (slot_earlier s t source coded) (word_parity (slot_shape (rows_at s)) t s.mask s.register coded)

pub check_told : (rate : ℕ) (t coded : List ℕ) → PositionTold (slot_shape (rows_of rate)) t coded (check_answer rate t coded).number (check_answer rate t coded).position
unfolding check_answer check_number checked_number failing_in
check_told rate t coded = position_told (slot_shape (rows_of rate)) t coded _ _ (form_earlier rate t coded) (λ e. e)
