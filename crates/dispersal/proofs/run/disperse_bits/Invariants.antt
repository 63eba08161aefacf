-- `dispersal::run::disperse_bits`: the area is filled with the dispersed run, each bit read before it is replaced; the register held
-- is the one after the bits passed.
use mathlib.Core.Path.{◌≡◌}
use mathlib.Core.List.{List}
use Prim.Native.Nat.{ℕ, ◌^◌, ◌<◌}
use Rattle.lists.specs.Filling.{Filling}
use Rattle.dispersal.specs.Register.{after}
use Rattle.dispersal.specs.Dispersal.{dispersed}
use Rattle.dispersal.proofs.run.disperse_bits.Given as goal

pub record Inv (width mask register : ℕ) (found run : List ℕ) (held n : ℕ) : Type 0 where
  pub small : held < 2 ^ width
  pub reached : held ≡ after width mask register n
  pub filling : Filling (dispersed width mask register found) found n run

abbrev pub invariant-loop-bit : goal.invariant-loop-bit
invariant-loop-bit l = Inv l.width l.mask l.register l.initial.run l.run l.held l.bit-index
