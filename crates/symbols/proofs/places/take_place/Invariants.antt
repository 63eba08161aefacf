-- `symbols::take_place`: the area is filled with the labels that have one bit more, each read before it is replaced.
use mathlib.Core.Path.{◌≡◌}
use mathlib.Core.List.{List}
use Prim.Native.Nat.{ℕ, ◌+◌, ◌*◌}
use Rattle.lists.specs.Filling.{Filling}
use Rattle.symbols.specs.Needs.{grown}
use Rattle.symbols.proofs.places.take_place.Given as goal

pub record Inv (bits : List ℕ) (start step : ℕ) (found labels : List ℕ) (r at : ℕ) : Type 0 where
  pub place : at ≡ start + step * r
  pub filling : Filling (grown bits start step found) found r labels

abbrev pub invariant-loop-label : goal.invariant-loop-label
invariant-loop-label l = Inv l.bits l.start l.step l.initial.labels l.labels l.label-index l.at
