-- `setting_block::plan_in`: the count is one octet, so that it fits.
use mathlib.Core.Path.{◌∙◌}
use native.Mathlib.Omega.{arith}
use Rattle.setting_block.specs.Layout.{layout, edition}
use Rattle.setting_block.specs.Blocks.{field_in, plan_in}
use Rattle.setting_block.specs.BlockLaws.{field_number}
use Rattle.octet_numbers.specs.NumberLaws.{number_below}
use Rattle.setting_block.proofs.blocks.plan_in.Goals as goal

pub overflow_cast-count : goal.overflow_cast-count
overflow_cast-count c =
    let s = c in
    let b = s.args.block.now in
    omega (arith, c.number_of-count.ensures, field_number b c.told-block (layout edition).count (omega arith), number_below 1 (field_in (layout edition).count b))

pub returns : goal.returns
unfolding plan_in
returns c =
    let s = c in
    let n = c.number_of-count in
    c.of_octets.ensures ∙ rw (n.ensures ∙ field_number s.args.block.now c.told-block (layout edition).count (omega arith))
