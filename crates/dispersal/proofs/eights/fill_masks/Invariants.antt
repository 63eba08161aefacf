-- `dispersal::eights::fill_masks`: the area is filled with the masks; the next is the one of the place reached.
use mathlib.Core.Path.{◌≡◌}
use mathlib.Core.List.{List}
use Prim.Native.Nat.{ℕ, ◌%◌, ◌^◌}
use Rattle.lists.specs.Filling.{Filling}
use Rattle.dispersal.specs.Eights.{mask_at, masks_of}
use Rattle.dispersal.proofs.eights.fill_masks.Given as goal

pub record Inv (width mask : ℕ) (found : List ℕ) (taps : ℕ) (masks : List ℕ) (next k : ℕ) : Type 0 where
  pub cut : taps ≡ mask % 2 ^ width
  pub reached : next ≡ mask_at (mask % 2 ^ width) k
  pub filling : Filling (masks_of width mask) found k masks

abbrev pub invariant-loop-place : goal.invariant-loop-place
invariant-loop-place l = Inv l.width l.mask l.initial.masks l.taps l.masks l.next l.place-index
