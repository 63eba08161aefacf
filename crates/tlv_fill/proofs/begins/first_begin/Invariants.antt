-- `tlv_fill::begins::first_begin`: nothing begins between the target and the place reached.
use Prim.Native.Nat.{◌-◌}
use Rattle.tlv_fill.specs.BeginTurns.{Ahead}
use Rattle.tlv_fill.proofs.begins.first_begin.Given as goal

abbrev pub invariant-loop-at : goal.invariant-loop-at
invariant-loop-at l = Ahead l.packets l.target l.at

abbrev pub decreases-loop-at : goal.decreases-loop-at
decreases-loop-at l = l.target - l.at
