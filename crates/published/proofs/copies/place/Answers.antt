-- `published::place`: the constant is the list of the starts, which is computed once.
use Rattle.std.proofs.Common.{◌≡◌, refl, true, ◌-◌, arith}
use Rattle.lists.specs.Count.{sum, table}
use Rattle.std.proofs.lemmas.Bool.Decides.{nat_tests}
use Rattle.plan.specs.Rates.{rate_ok}
use Rattle.plan.proofs.RateLaws.{between}
use Rattle.published.specs.Printed.{rate1, rate2, rate3, rate4, rate5, rate6, rate7, rate8, rate9, rate10, rate11}
use Rattle.published.specs.Published.{printed, form, nth, table_at}
use Rattle.published.proofs.Starts.{start_at}
use Rattle.published.proofs.copies.place.Goals as goal

pub returns : goal.returns
unfolding sum table table_at form nth printed rate1 rate2 rate3 rate4 rate5 rate6 rate7 rate8 rate9 rate10 rate11
returns c =
    let k : rate_ok c.args.rate ≡ true = grind (arith, nat_tests) in
    let b = between 1 11 c.args.rate k in
    (k, start_at _ refl (c.args.rate - 1) (omega (arith, b)), start_at _ refl c.args.rate (omega (arith, b)))
