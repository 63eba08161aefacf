-- `word_reader::check_word`: message and BCH bits are parts of the run.
use Rattle.std.proofs.Common.{◌+◌, arith, ◌∙◌}
use Rattle.lists.specs.PartLaws.{length_part}
use Rattle.lists.specs.RunLaws.{below_take}
use Rattle.word_reader.proofs.check_word.Goals as goal

pub right-requires : goal.right-requires
right-requires c =
    let m = c.args.shape.message in
    let u = c.args.run.now in
    record { bits = below_take 1 m u c.requires.run.bits; long = length_part m (m + 192) u (omega (arith, c.requires.run.long)) ∙ omega arith }
