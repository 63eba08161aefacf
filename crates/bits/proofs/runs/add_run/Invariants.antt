-- `bits::add_run`: the area is filled with the sum, each bit read before it is replaced.
use Rattle.lists.specs.Filling.{Filling}
use Rattle.bits.specs.Sums.{added}
use Rattle.bits.proofs.runs.add_run.Given as goal

abbrev pub invariant-loop-i : goal.invariant-loop-i
invariant-loop-i l = Filling (added l.initial.to l.run) l.initial.to l.i l.to
