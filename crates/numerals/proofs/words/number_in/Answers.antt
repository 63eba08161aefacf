-- `numerals::number_in`: the tests of the definition.
use Rattle.std.proofs.Common.{◌≡◌, ◌+◌, ◌≤◌, sym, ◌∙◌, arith, length}
use Rattle.std.proofs.lemmas.Bool.Decides.{nat_tests}
use Rattle.lists.specs.CountLaws.{every_at}
use Rattle.numerals.specs.Words.{digit_at, said, number_in}
use Rattle.numerals.proofs.words.number_in.Goals as goal

pub value-requires : goal.value-requires
value-requires c =
    let a = c.args in
    let t = a.text.now in
    let d = sym c.all_digits.ensures ∙ c.if-all_digits.true in
    let w : length t ≤ a.most = grind (arith, nat_tests) in
    record {
      small = c.requires.small;
      few = omega (arith, c.requires.few);
      near = omega (arith, c.requires.few);
      right = λ k h. let e : 0 + k ≡ k = omega arith in rw e (every_at (length t) (digit_at a.base t) d k h);
    }

pub returns-then-all_digits : goal.returns-then-all_digits
unfolding said number_in
returns-then-all_digits c = grind (arith, nat_tests)

pub returns-else-contains : goal.returns-else-contains
unfolding said number_in
returns-else-contains c = grind (arith, nat_tests)
