-- `octet_numbers::number_of`: the number of at most four octets fits.
use Prim.Native.Nat.{◌*◌}
use native.Mathlib.Omega.{arith}
use lib.ListN.{length}
use lib.Pow.{pow_mono}
use Rattle.octet_numbers.specs.NumberLaws.{number_below}
use Rattle.octet_numbers.proofs.number_of.Goals as goal

pub overflow_cast-result : goal.overflow_cast-result
overflow_cast-result c =
    let u = c.args.octets.now in
    omega (arith, c.gathered.ensures, number_below (length u) u, pow_mono {i = 8 * length u} {j = 32} (omega (arith, c.requires)))
