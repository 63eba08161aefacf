-- `frame::source_length`: the octets of the slots passed, none of which has more than a slot has.
use mathlib.Core.Path.{◌≡◌, sym, ap, ◌∙◌}
use Prim.Native.Nat.{◌+◌, ◌≤◌}
use native.Mathlib.Omega.{arith}
use Rattle.plan.specs.Sizes.{slot_octets}
use Rattle.frame.specs.Frames.{source_from}
use Rattle.frame.proofs.FrameLaws.{source_from_none, source_from_more, octets_few}
use Rattle.frame.proofs.sources.source_length.Goals.{After-slot_octets-sum}
use Rattle.frame.proofs.sources.source_length.Goals as goal

few : (c : After-slot_octets-sum) → c.slot_octets-sum.result ≤ slot_octets
few c = omega (arith, c.slot_octets-sum.ensures, octets_few c.args.plan (c.loop-k.k + 1))

pub loop-k-init : goal.loop-k-init
loop-k-init c = (omega arith, sym (source_from_none c.args.plan))

pub slot_octets-sum-requires : goal.slot_octets-sum-requires
slot_octets-sum-requires c = record { plan = c.requires; low = omega arith; high = omega arith }

pub overflow_add-sum : goal.overflow_add-sum
overflow_add-sum c = omega (arith, few c)

pub loop-k-preserved : goal.loop-k-preserved
loop-k-preserved c = (omega (arith, few c), omega (arith, c.slot_octets-sum.ensures, source_from_more c.args.plan c.loop-k.k))

pub returns : goal.returns
returns c =
    let l = c.loop-k in
    let e : l.k ≡ 120 = omega arith in
    l.invariant.1 ∙ ap (source_from c.args.plan) e
