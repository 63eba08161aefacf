-- `setting_block::registers_in`: each number is that of its field.
use mathlib.Core.Path.{◌∙◌}
use native.Mathlib.Omega.{arith}
use Rattle.setting_block.specs.Layout.{layout, edition}
use Rattle.setting_block.specs.Blocks.{registers_in}
use Rattle.setting_block.specs.BlockLaws.{field_number}
use Rattle.setting_block.proofs.blocks.registers_in.Goals as goal

pub returns : goal.returns
unfolding registers_in
returns c =
    let s = c in
    let b = s.args.block.now in
    rw (c.number_of.ensures ∙ field_number b c.told-block (layout edition).slot_mask (omega arith), c.number_of-2.ensures ∙ field_number b c.told-block (layout edition).slot_start (omega arith), c.number_of-3.ensures ∙ field_number b c.told-block (layout edition).tmcc_mask (omega arith), c.number_of-4.ensures ∙ field_number b c.told-block (layout edition).tmcc_start (omega arith))
