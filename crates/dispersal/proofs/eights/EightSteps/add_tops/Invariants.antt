-- `dispersal::eights::EightSteps::add_tops`: the area is filled with the sums, each bit read before it is replaced.
use Prim.Native.Nat.{◌-◌, ◌/◌, ◌^◌}
use Rattle.lists.specs.Filling.{Filling}
use Rattle.bits.specs.Digits.{digits}
use Rattle.bits.specs.Sums.{added}
use Rattle.dispersal.proofs.eights.EightSteps.add_tops.Given as goal

abbrev pub invariant-loop-k : goal.invariant-loop-k
invariant-loop-k l = Filling (added l.initial.run (digits 8 (l.register / 2 ^ (l.self.width - 8)))) l.initial.run l.k l.run
