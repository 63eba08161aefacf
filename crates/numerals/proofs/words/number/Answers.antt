-- `numerals::number`: 0x in front decides the base.
use Rattle.std.proofs.Common.{arith, length-drop}
use Rattle.std.proofs.lemmas.Bool.Decides.{nat_tests}
use Rattle.lists.specs.PartLaws.{part_rest}
use Rattle.numerals.specs.Words.{hexadecimal, number_text}
use Rattle.numerals.proofs.words.number.Goals as goal

pub returns-in-48 : goal.returns-in-48
unfolding hexadecimal number_text
returns-in-48 c =
    let w = c.args.word.now in
    let e = part_rest 2 w in
    let l = length-drop 2 w in
    grind (arith, nat_tests)

pub returns-in_default : goal.returns-in_default
unfolding hexadecimal number_text
returns-in_default c = grind (arith, nat_tests)
