-- `bits::gather`: the number that the bits passed make.
use mathlib.Core.Path.{◌≡◌, sym}
use Prim.Native.Nat.{◌+◌, ◌*◌}
use native.Mathlib.Omega.{arith}
use lib.Pow.{pow_mono}
use Rattle.bits.specs.Digits.{number}
use Rattle.bits.specs.DigitLaws.{number_none, number_more, number_lt}
use Rattle.bits.proofs.octets.gather.Goals as goal

pub loop-bit-init : goal.loop-bit-init
loop-bit-init c = (sym (number_none _), omega arith)

pub loop-bit-preserved : goal.loop-bit-preserved
loop-bit-preserved c =
    let l = c.loop-bit in
    let u = c.args.bits.now in
    let e : l.made * 2 + c.from.result ≡ number (l.bit-index + 1) u = omega (arith, number_more l.bit-index u) in
    (e, omega (arith, number_lt (l.bit-index + 1) u c.requires.bits, pow_mono {i = l.bit-index + 1} {j = 63} (omega arith)))
