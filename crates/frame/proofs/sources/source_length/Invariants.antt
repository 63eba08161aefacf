-- `frame::source_length`: the octets of the slots passed, none of which has more than a slot has.
use mathlib.Core.Path.{◌≡◌}
use Prim.Native.Nat.{◌*◌, ◌≤◌}
use Rattle.plan.specs.Sizes.{slot_octets}
use Rattle.frame.specs.Frames.{source_from}
use Rattle.frame.proofs.sources.source_length.Given as goal

abbrev pub invariant-loop-k : goal.invariant-loop-k
invariant-loop-k l = (l.sum ≤ slot_octets * l.k) × (l.sum ≡ source_from l.plan l.k)
