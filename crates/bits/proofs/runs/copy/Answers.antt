-- `bits::copy`: the area is filled with the run that is copied.
use Rattle.std.proofs.Common.{refl, sym, arith}
use Rattle.lists.specs.FillingLaws.{filling_none, filling_more}
use Rattle.bits.proofs.runs.copy.Goals as goal

pub loop-i-init : goal.loop-i-init
loop-i-init c = filling_none _ _ (sym c.requires)

pub loop-i-preserved : goal.loop-i-preserved
loop-i-preserved c = let l = c.loop-i in filling_more _ _ l.i l.to l.invariant _ (omega arith) refl
