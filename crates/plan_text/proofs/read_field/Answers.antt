-- `plan_text::read_field`: the tests of the definition; the digits counted make a number of at most three digits.
use Rattle.std.proofs.Common.{arith}
use Rattle.std.proofs.lemmas.Bool.Decides.{nat_tests}
use Rattle.plan_text.specs.Reading.{field_ok}
use Rattle.plan_text.specs.ReadingLaws.{digits_most, digits_are, field_small}
use Rattle.plan_text.proofs.read_field.Goals as goal

pub overflow_add-at : goal.overflow_add-at
overflow_add-at c = omega (arith, c.digits_at-count.ensures, digits_most c.args.text.now c.args.at)

pub value-number-requires : goal.value-number-requires
value-number-requires c =
    let a = c.args in
    let e = c.digits_at-count.ensures in
    record {
      small = omega arith;
      few = omega (arith, e, digits_most a.text.now a.at);
      near = c.requires;
      right = λ k h. digits_are a.text.now a.at k (omega (arith, e));
    }

pub overflow_cast-number : goal.overflow_cast-number
overflow_cast-number c =
    let e = c.digits_at-count.ensures in
    let m = field_small c.args.text.now c.args.at in
    grind arith

pub overflow_add-result : goal.overflow_add-result
overflow_add-result c = omega (arith, c.digits_at-count.ensures, digits_most c.args.text.now c.args.at)

pub overflow_add-result-then-octet_at-separator : goal.overflow_add-result-then-octet_at-separator
overflow_add-result-then-octet_at-separator c = omega (arith, c.digits_at-count.ensures, digits_most c.args.text.now c.args.at)

pub returns-then-octet_at-separator : goal.returns-then-octet_at-separator
unfolding field_ok
returns-then-octet_at-separator c = grind (arith, nat_tests)

pub returns-else-count-ge1 : goal.returns-else-count-ge1
unfolding field_ok
returns-else-count-ge1 c = grind (arith, nat_tests)
