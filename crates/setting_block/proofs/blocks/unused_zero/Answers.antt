-- `setting_block::unused_zero`: groups behind the count, of which there are none where the count is 8 or more.
use Rattle.std.proofs.Common.{sym, ◌∙◌, arith, le-leb}
use Rattle.setting_block.specs.Layout.{layout, edition}
use Rattle.setting_block.specs.Blocks.{field_in}
use Rattle.setting_block.specs.BlockLaws.{length_field, field_number, unused_none}
use Rattle.setting_block.proofs.blocks.unused_zero.Goals as goal

pub returns-then-used-ge24 : goal.returns-then-used-ge24
returns-then-used-ge24 c =
    let n = c.number_of-count in
    let b = c.args.block.now in
    let e = n.ensures ∙ field_number b c.told-block (layout edition).count (omega arith) in
    le-leb 24 _ c.if-used-ge24.true
    ∙ rw e at (sym (unused_none n.result (field_in (layout edition).groups b) (length_field b c.told-block (layout edition).groups (omega arith)) c.if-used-ge24.true))
