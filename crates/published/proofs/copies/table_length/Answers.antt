-- `published::table_length`: the table lies between two starts.
use Rattle.std.proofs.Common.{◌≡◌, ◌-◌, ◌+◌, length, arith}
use Rattle.lists.specs.CountLaws.{sum_more}
use Rattle.plan.proofs.RateLaws.{between}
use Rattle.published.specs.Published.{table_at, table_of, length_of}
use Rattle.published.specs.PublishedLaws.{table_short}
use Rattle.published.proofs.copies.table_length.Goals as goal

pub returns-in_default : goal.returns-in_default
unfolding length_of
returns-in_default c = record { value = rw c.in_default.ensures; upper_bound = omega arith }

pub returns : goal.returns
unfolding length_of
returns c =
    let rate = c.args.rate in
    let w = c.in-Some.ensures in
    let b = between 1 11 rate w.0 in
    let n : rate - 1 + 1 ≡ rate = omega (arith, b) in
    let e : c.len.result ≡ length (table_of rate) = omega (arith, c.len.ensures.value, w.1, w.2, rw n at (sum_more (rate - 1) (λ i. length (table_at i)))) in
    record { value = rw w.0 e; upper_bound = omega (arith, e, table_short rate b.low b.high) }
