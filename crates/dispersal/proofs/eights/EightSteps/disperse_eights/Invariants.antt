-- `dispersal::eights::EightSteps::disperse_eights`: the area is filled with the dispersed run, eight bits at a time; the register held
-- is the one after the bits passed.
use mathlib.Core.Path.{◌≡◌}
use mathlib.Core.List.{List}
use Prim.Native.Nat.{ℕ, ◌*◌, ◌^◌, ◌<◌}
use Rattle.lists.specs.Filling.{Filling}
use Rattle.dispersal.specs.Register.{after}
use Rattle.dispersal.specs.Dispersal.{dispersed}
use Rattle.dispersal.proofs.eights.EightSteps.disperse_eights.Given as goal

pub record Inv (width mask register : ℕ) (found run : List ℕ) (held at : ℕ) : Type 0 where
  pub small : held < 2 ^ width
  pub reached : held ≡ after width mask register at
  pub filling : Filling (dispersed width mask register found) found at run

abbrev pub invariant-loop-i : goal.invariant-loop-i
invariant-loop-i l = Inv l.self.width l.self.mask l.register l.initial.run l.run l.held (8 * l.i)
