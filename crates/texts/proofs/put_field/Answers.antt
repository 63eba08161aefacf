-- `texts::put_field`: a number has at most three digits, so there is room for the space.
use Rattle.std.proofs.Common.{arith, rules}
use Rattle.texts.specs.Decimals.{field}
use Rattle.texts.specs.DecimalLaws.{length_decimal}
use Rattle.texts.specs.Written.{written_then}
use Rattle.texts.proofs.put_field.Goals as goal

pub put_text-requires : goal.put_text-requires
put_text-requires c =
    let d = c in
    let a = d.args in
    record { room = omega (arith, d.put_decimal-next.ensures.reached, d.put_decimal-next.ensures.same, length_decimal a.n) }

pub returns : goal.returns
unfolding field
returns c = written_then (search rules) c.put_decimal-next.ensures c.put_text.ensures
