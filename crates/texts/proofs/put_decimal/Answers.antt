-- `texts::put_decimal`: the digits of the definition, by how many there are.
use Rattle.std.proofs.Common.{arith}
use Rattle.std.proofs.lemmas.Bool.Decides.{nat_tests}
use Rattle.texts.specs.Decimals.{decimal}
use Rattle.texts.specs.Written.{written_is}
use Rattle.texts.proofs.put_decimal.Goals as goal

pub returns-then-n-lt10 : goal.returns-then-n-lt10
unfolding decimal
returns-then-n-lt10 c = written_is (grind (arith, nat_tests)) c.put_text.ensures

pub returns-then-n-lt100 : goal.returns-then-n-lt100
unfolding decimal
returns-then-n-lt100 c = written_is (grind (arith, nat_tests)) c.put_text-then-n-lt100.ensures

pub returns-else-n-lt100 : goal.returns-else-n-lt100
unfolding decimal
returns-else-n-lt100 c = written_is (grind (arith, nat_tests)) c.put_text-else-n-lt100.ensures
