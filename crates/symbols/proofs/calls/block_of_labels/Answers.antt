-- `symbols::block_of_labels`: where the call is accepted, the labels' block.
use mathlib.Core.Path.{refl, sym}
use Prim.Native.Nat.{ℕ}
use lib.ListN.{length, replicate, length-replicate}
use Rattle.refusal.specs.AnswerLaws.{accepted}
use Rattle.symbols.specs.CallLaws.{Lengths, block_labels_ready}
use Rattle.plan.specs.Sizes.{block_bits, block_octets}
use Rattle.symbols.specs.Labels.{block_labels}
use Rattle.symbols.proofs.Ready.{block_areas, octets_left}
use Rattle.symbols.proofs.calls.block_of_labels.Goals as goal

pub unlabel_octets-requires : goal.unlabel_octets-requires
unlabel_octets-requires c =
    let ready : Lengths block_octets block_labels (length c.args.block.now) (length c.args.labels.now) = block_labels_ready _ _ (sym c.in_ok-check_block_of_labels.ensures) in
    let a = c.args in
    block_areas a.block.now (replicate block_bits 0) a.labels.now ready (length-replicate {A = ℕ} block_bits 0)

pub returns : goal.returns
returns c =
    let ready : Lengths block_octets block_labels (length c.args.block.now) (length c.args.labels.now) = block_labels_ready _ _ (sym c.in_ok-check_block_of_labels.ensures) in
    accepted _ _ _ _ (sym c.in_ok-check_block_of_labels.ensures)
    (octets_left _ _ 1 1 _ _ _ _ _ _ c.unlabel_octets.ensures ready.octets refl ready.labels refl)
