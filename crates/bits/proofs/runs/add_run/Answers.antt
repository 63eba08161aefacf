-- `bits::add_run`: the area is filled with the sum, each bit read before it is replaced.
use Rattle.std.proofs.Common.{◌<◌, ◌∙◌, length, sym, arith}
use Rattle.lists.specs.FillingLaws.{filling_none, filling_here, filling_more}
use Rattle.bits.specs.SumLaws.{length_added, get_or_added}
use Rattle.bits.proofs.Turns.{lowest_of_both}
use Rattle.bits.proofs.runs.add_run.Goals as goal

pub loop-i-init : goal.loop-i-init
loop-i-init c = filling_none _ _ (length_added _ _)

pub loop-i-preserved : goal.loop-i-preserved
loop-i-preserved c =
    let l = c.loop-i in
    let a = c.args in
    let h : l.i < length a.to.now = omega arith in
    let e = filling_here _ _ l.i l.to l.invariant in
    filling_more _ _ l.i l.to l.invariant _ h (rw e (lowest_of_both _ _ ∙ sym (get_or_added a.to.now a.run.now l.i h)))
