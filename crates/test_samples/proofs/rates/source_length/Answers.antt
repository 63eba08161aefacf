-- `test_samples::source_length`: no rate has more than 109 rows.
use Rattle.std.proofs.Common.{◌≤◌, ℕ, arith}
use Rattle.plan.specs.Rates.{data_bits_of, data_octets_of}
use Rattle.plan.proofs.RateLaws.{rows_most}
use Rattle.test_samples.proofs.rates.source_length.Goals as goal

most : (rate : ℕ) → data_octets_of rate ≤ 5049
unfolding data_octets_of data_bits_of
most rate = omega (arith, rows_most rate)

pub overflow_add-result : goal.overflow_add-result
overflow_add-result c =
    let m : c.data_octets.result ≤ 5049 = rw c.data_octets.ensures (most c.from.result) in
    omega (arith, m)

pub returns : goal.returns
returns c =
    let m : c.data_octets.result ≤ 5049 = rw c.data_octets.ensures (most c.from.result) in
    omega (arith, m)
