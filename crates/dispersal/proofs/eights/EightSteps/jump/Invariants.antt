-- `dispersal::eights::EightSteps::jump`: what is fed in are the feedback bits of the steps so far.
use mathlib.Core.Path.{◌≡◌}
use Rattle.dispersal.specs.Eights.{feedback}
use Rattle.dispersal.proofs.eights.EightSteps.jump.Given as goal

abbrev pub invariant-loop-mask : goal.invariant-loop-mask
invariant-loop-mask l = l.fed ≡ feedback l.self.masks l.register l.mask-index
