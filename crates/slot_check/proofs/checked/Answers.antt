-- `slot_check::checked`: the lowest wrong position of the codeword that a slot is.
use Rattle.std.proofs.Common.{ap, ap₂, arith, ◌∙◌, ℕ}
use Rattle.codeword.specs.declared.Shape.{Shape}
use Rattle.codeword.specs.Reading.{wrong_position, parity_number, word_answer}
use Rattle.codeword.proofs.ReadingLaws.{wrong_few}
use Rattle.slot.specs.Slots.{slot_shape}
use Rattle.slot.proofs.SlotLaws.{fits}
use Rattle.slot.specs.Reading.{failing_in, checked_number}
use Rattle.slot.proofs.AreaLaws.{areas}
use Rattle.slot_check.proofs.checked.Goals as goal

pub wrong_position-wrong-requires : goal.wrong_position-wrong-requires
wrong_position-wrong-requires c =
    let a = c.args in
    rw c.shape-shape.ensures (areas a.rows a.table.now a.coded.now a.bits.now a.input.now a.sums.now c.requires)

pub check_parity-requires : goal.check_parity-requires
check_parity-requires c =
    rw c.shape-shape.ensures (fits c.args.rows c.requires.rate)

pub returns : goal.returns
unfolding checked_number failing_in
returns c =
    let a = c.args in
    let e = c.wrong_position-wrong.ensures.value ∙ ap (λ (F : Shape). wrong_position F a.table.now a.coded.now) c.shape-shape.ensures in
    c.check_parity.ensures.position (omega (arith, e, wrong_few (slot_shape a.rows) a.table.now a.coded.now)) ∙ ap₂ (λ (F : Shape) (w : ℕ). word_answer (parity_number F w) w) c.shape-shape.ensures e
