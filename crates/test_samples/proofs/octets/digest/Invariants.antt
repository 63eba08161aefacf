-- `test_samples::digest`: the sum stays below its modulus.
use Rattle.std.proofs.Common.{◌<◌}
use Rattle.test_samples.proofs.octets.digest.Given as goal

abbrev pub invariant-loop-octet : goal.invariant-loop-octet
invariant-loop-octet l = l.sum < 4294967291
