-- `test_bench_slots::read_slots`: the sum stays below 2^32.
use Rattle.std.proofs.Common.{◌<◌}
use Rattle.test_bench_slots.proofs.read_slots.Given as goal

abbrev pub invariant-loop : goal.invariant-loop
invariant-loop l = l.sum < 4294967296
