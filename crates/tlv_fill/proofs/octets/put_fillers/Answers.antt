-- `tlv_fill::octets::put_fillers`: the octets passed are those of fillers.
use mathlib.Core.Path.{sym}
use Prim.Native.Nat.{◌+◌, ◌%◌, ◌<◌}
use native.Mathlib.Omega.{arith}
use lib.ListN.{length, get_or}
use Rattle.lists.specs.FillingLaws.{filling_none, filling_more}
use Rattle.lists.specs.CountLaws.{length_table, get_or_table}
use Rattle.tlv.specs.Fill.{filler}
use Rattle.tlv_fill.proofs.octets.put_fillers.Goals as goal

pub loop-i-init : goal.loop-i-init
loop-i-init c = filling_none _ _ (length_table (length c.args.to.now) (λ i. get_or filler ((c.args.from + i) % 4) 0))

pub loop-i-preserved : goal.loop-i-preserved
loop-i-preserved c =
    let l = c.loop-i in
    let a = c.args in
    let h : l.i < length a.to.now = omega (arith, l.invariant.same) in
    filling_more _ _ l.i l.to l.invariant _ h (sym (get_or_table (length a.to.now) (λ i. get_or filler ((a.from + i) % 4) 0) l.i h))
