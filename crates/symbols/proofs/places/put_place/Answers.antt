-- `symbols::put_place`: of the labels passed the bits are put.
use Prim.Native.Nat.{◌/◌, ◌^◌, ◌<◌}
use native.Mathlib.Omega.{arith}
use lib.Bits.{and_mask}
use lib.ListN.{length, get_or}
use borrow.Author.Rules.{rules}
use Rattle.symbols.specs.Needs.{weighed}
use Rattle.symbols.proofs.Strides.{next_step, put_more}
use Rattle.symbols.proofs.places.put_place.Goals as goal

pub loop-label-preserved : goal.loop-label-preserved
loop-label-preserved c =
    let l = c.loop-label in
    let a = c.args in
    let w : l.at < length a.bits.now = rw l.invariant.place (c.requires.strided.within l.label-index (search rules)) in
    let d = put_more l.label-index (weighed a.labels.now a.shift) a.start a.step a.bits.now l.bits c.requires.strided.small.low (omega (arith, l.invariant.place)) l.invariant.done l.at _ l.invariant.place (and_mask (get_or a.labels.now l.label-index 0 / 2 ^ a.shift) 1) in
    record { passed = search rules; place = omega (arith, l.invariant.place, next_step a.step l.label-index); same = d.long; done = d }
