-- `symbols::labels_of_block`: where the call is accepted, the block's labels.
use mathlib.Core.Path.{refl, sym}
use Prim.Native.Nat.{ℕ}
use lib.ListN.{length, replicate, length-replicate}
use Rattle.refusal.specs.AnswerLaws.{accepted}
use Rattle.symbols.specs.CallLaws.{Lengths, block_ready}
use Rattle.plan.specs.Sizes.{block_bits, block_octets}
use Rattle.symbols.specs.Labels.{block_labels}
use Rattle.symbols.proofs.Ready.{block_areas, labels_left}
use Rattle.symbols.proofs.calls.labels_of_block.Goals as goal

pub label_octets-requires : goal.label_octets-requires
label_octets-requires c =
    let ready : Lengths block_octets block_labels (length c.args.block.now) (length c.args.labels.now) = block_ready _ _ (sym c.in_ok-check_block.ensures) in
    let a = c.args in
    block_areas a.block.now (replicate block_bits 0) a.labels.now ready (length-replicate {A = ℕ} block_bits 0)

pub returns : goal.returns
returns c =
    let ready : Lengths block_octets block_labels (length c.args.block.now) (length c.args.labels.now) = block_ready _ _ (sym c.in_ok-check_block.ensures) in
    accepted _ _ _ _ (sym c.in_ok-check_block.ensures)
    (labels_left 1 1 _ _ _ _ _ _ c.label_octets.ensures refl ready.labels refl)
