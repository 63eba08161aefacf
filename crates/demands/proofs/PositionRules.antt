-- Document 02, N7, proved.
use Rattle.std.specs.Prelude.{◌≡◌, refl, Bool, true, false, ℕ, ◌+◌, ◌<◌}
use Rattle.std.proofs.Math.Decide.{dec_lt}
use Rattle.std.proofs.Common.{arith}
use Rattle.plan.specs.Places.{carries, group_at}
use Rattle.codeword.specs.Reading.{PositionTold}
use Rattle.slot.specs.Slots.{slot_shape}
use Rattle.slot.specs.Calls.{rows_at}
use Rattle.slot.proofs.PositionLaws.{received_told, read_told, check_told}
use Rattle.tmcc.proofs.CallLaws as blocks
use Rattle.frame.specs.Tables.{table_of}
use Rattle.frame.specs.Steps.{table_at, answer_at, position_at}
use Rattle.frame.proofs.StepLaws.{answer_data, answer_dummy}
use Rattle.frame.specs.Frames.{rows_of_slot, register_before, state_before, slot_in}
use Rattle.frame.proofs.FrameLaws.{answer_at_law, length_positions_of, position_at_law}
use Rattle.demands.specs.PositionRequests.{CheckPositionTold, SlotPositionTold, FramePositionsTold, BlockPositionTold, FailingOne, FailingBelow}

pub check_position_told : CheckPositionTold
check_position_told = check_told

pub slot_position_told : SlotPositionTold
slot_position_told = read_told

pub block_position_told : BlockPositionTold
block_position_told = blocks.read_told

pub frame_positions_told : FramePositionsTold
unfolding position_at table_at rows_at
frame_positions_told p ts mask start frame = (
  length_positions_of p ts mask start frame,
  λ k h. rw (answer_at_law p ts mask start frame k h, position_at_law p ts mask start frame k h) (slot k (carries p (k + 1)) refl),
)
  where
    slot : (k : ℕ) (b : Bool) → carries p (k + 1) ≡ b
        → let s = state_before p mask start k in
        PositionTold (slot_shape (rows_of_slot p (k + 1))) (table_of p ts (group_at p (k + 1))) (slot_in frame k) (answer_at s ts (slot_in frame k)) (position_at s ts (slot_in frame k))
    slot k true c = rw (answer_data (state_before p mask start k) ts c (slot_in frame k)) (received_told (rows_of_slot p (k + 1)) (table_of p ts (group_at p (k + 1))) mask (register_before p mask start k) (slot_in frame k))
    slot k false c = rw (answer_dummy (state_before p mask start k) ts c (slot_in frame k)) (record { failing = λ e. absurd (omega arith); none = λ f. refl })

pub failing_one : FailingOne
failing_one F t c p q f g = go (dec_lt p q) (dec_lt q p)
  where
    go : Dec (p < q) → Dec (q < p) → p ≡ q
    go (yes l) d = absurd (f.wrong (g.right p l))
    go (no n) (yes l) = absurd (g.wrong (f.right q l))
    go (no n) (no m) = omega arith

pub failing_below : FailingBelow
failing_below F t c p f = omega (arith, f.below)
