-- What an answer of a test, with a value where it holds, says of both.
use Rattle.std.proofs.Common.{◌≡◌, refl, Bool, true, false, Option, None, Some}
use Rattle.lists.specs.Choice.{pick}

pub picked_some : {A : Type 0} (b : Bool) (x y : A) → Some x ≡ pick b (Some y) None → (b ≡ true) × (x ≡ y)
picked_some true x y e = (refl, cc)
picked_some false x y e = absurd (cc)

pub picked_none : {A : Type 0} (b : Bool) (y : A) → ◌≡◌ {A = Option A} None (pick b (Some y) None) → b ≡ false
picked_none true y e = absurd (cc)
picked_none false y e = refl
