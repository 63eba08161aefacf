-- `bits::copy`: the area is filled with the run that is copied.
use Rattle.lists.specs.Filling.{Filling}
use Rattle.bits.proofs.runs.copy.Given as goal

abbrev pub invariant-loop-i : goal.invariant-loop-i
invariant-loop-i l = Filling l.from l.initial.to l.i l.to
