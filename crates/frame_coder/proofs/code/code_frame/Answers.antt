-- `frame_coder::code_frame`: the tests decide between the coded frame and the area as found.
use Rattle.std.proofs.Common.{rules, sym}
use Rattle.refusal.specs.AnswerLaws.{accepted}
use Rattle.frame.specs.Frames.{frame_number}
use Rattle.frame.proofs.CallLaws.{frame_lent}
use Rattle.frame_coder.proofs.code.code_frame.Goals as goal

pub code_slots-requires : goal.code_slots-requires
unfolding frame_number
code_slots-requires c =
    record { lent = frame_lent _ _ _ _ _ _ (sym c.in_ok-ends.ensures.value); ends_long = search rules; ends_are = c.in_ok-ends.ensures.ends }

pub returns : goal.returns
unfolding frame_number
returns c = accepted _ _ _ _ (sym c.in_ok-ends.ensures.value) c.code_slots.ensures
