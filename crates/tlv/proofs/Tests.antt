-- A test of a part of a list, as the definition that counts by index.
use Rattle.std.specs.Prelude.{◌≡◌, Bool, List, ℕ, ◌+◌, ◌≤◌, length, get_or, take, drop}
use Rattle.std.proofs.Common.{sym, ap, ◌∙◌, arith, length-drop}
use Rattle.std.proofs.lemmas.List.{get_or-take, get_or-drop, length-take-le}
use Rattle.lists.specs.Count.{every}
use Rattle.lists.specs.CountLaws.{every_same}

-- a test of m octets from place a on
pub every_part : (test : ℕ → Bool) (xs : List ℕ) (a m : ℕ) → a + m ≤ length xs
    → every m (λ k. test (get_or xs (a + k) 0)) ≡ every (length (take m (drop a xs))) (λ k. test (get_or (take m (drop a xs)) k 0))
every_part test xs a m h =
    let long : length (take m (drop a xs)) ≡ m = length-take-le m (drop a xs) (omega (arith, length-drop a xs)) in
    rw long (every_same m _ _ (λ k l. ap test (sym (get_or-take m (drop a xs) k 0 l ∙ get_or-drop a xs k 0))))
