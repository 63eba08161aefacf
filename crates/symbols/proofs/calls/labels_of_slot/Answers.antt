-- `symbols::labels_of_slot`: where the call is accepted, the slot's labels.
use mathlib.Core.Path.{refl, sym}
use Prim.Native.Nat.{ℕ}
use lib.ListN.{length, replicate, length-replicate}
use Rattle.refusal.specs.AnswerLaws.{accepted}
use Rattle.plan.specs.Sizes.{slot_bits}
use Rattle.symbols.specs.CallLaws.{SlotReady, slot_ready}
use Rattle.symbols.proofs.Ready.{slot_areas, labels_left}
use Rattle.symbols.proofs.calls.labels_of_slot.Goals as goal

pub label_octets-requires : goal.label_octets-requires
label_octets-requires c =
    let ready : SlotReady c.args.modulation c.args.rate (length c.args.slot.now) (length c.args.labels.now) = slot_ready _ _ _ _ (sym c.in_ok-check_slot.ensures) in
    let a = c.args in
    slot_areas a.modulation a.rate a.modulation a.slot.now (replicate slot_bits 0) a.labels.now ready refl (length-replicate {A = ℕ} slot_bits 0)

pub returns : goal.returns
returns c =
    let ready : SlotReady c.args.modulation c.args.rate (length c.args.slot.now) (length c.args.labels.now) = slot_ready _ _ _ _ (sym c.in_ok-check_slot.ensures) in
    accepted _ _ _ _ (sym c.in_ok-check_slot.ensures)
    (labels_left _ _ _ _ _ _ _ _ c.label_octets.ensures refl ready.lengths.labels c.right_to_left-leftward.ensures)
