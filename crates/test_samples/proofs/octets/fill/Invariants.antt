-- `test_samples::fill`: the number stays below 2^32, so its top eight bits are an octet.
use Rattle.std.proofs.Common.{◌<◌}
use Rattle.test_samples.proofs.octets.fill.Given as goal

abbrev pub invariant-loop-octet : goal.invariant-loop-octet
invariant-loop-octet l = l.x < 4294967296
