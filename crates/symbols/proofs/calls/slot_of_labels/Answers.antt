-- `symbols::slot_of_labels`: where the call is accepted, the labels' slot.
use mathlib.Core.Path.{refl, sym}
use Prim.Native.Nat.{ℕ}
use lib.ListN.{length, replicate, length-replicate}
use Rattle.refusal.specs.AnswerLaws.{accepted}
use Rattle.plan.specs.Sizes.{slot_bits}
use Rattle.symbols.specs.CallLaws.{SlotReady, slot_labels_ready}
use Rattle.symbols.proofs.Ready.{slot_areas, octets_left}
use Rattle.symbols.proofs.calls.slot_of_labels.Goals as goal

pub unlabel_octets-requires : goal.unlabel_octets-requires
unlabel_octets-requires c =
    let ready : SlotReady c.args.modulation c.args.rate (length c.args.slot.now) (length c.args.labels.now) = slot_labels_ready _ _ _ _ (sym c.in_ok-check_slot_of_labels.ensures) in
    let a = c.args in
    slot_areas a.modulation a.rate a.modulation a.slot.now (replicate slot_bits 0) a.labels.now ready refl (length-replicate {A = ℕ} slot_bits 0)

pub returns : goal.returns
returns c =
    let ready : SlotReady c.args.modulation c.args.rate (length c.args.slot.now) (length c.args.labels.now) = slot_labels_ready _ _ _ _ (sym c.in_ok-check_slot_of_labels.ensures) in
    accepted _ _ _ _ (sym c.in_ok-check_slot_of_labels.ensures)
    (octets_left _ _ _ _ _ _ _ _ _ _ c.unlabel_octets.ensures ready.lengths.octets refl ready.lengths.labels c.right_to_left-leftward.ensures)
