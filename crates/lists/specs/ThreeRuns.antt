-- Laws of three runs end to end: each as a part of the whole, and the whole made of its parts.
use Rattle.std.specs.Prelude.{◌≡◌, List, ◌++◌, ℕ, ◌+◌, ◌-◌, length, take, drop}
use Rattle.std.proofs.Common.{arith, take-append-drop, take_at, drop_at, drop-drop}
use Rattle.lists.specs.Parts.{part}

-- runs of a elements, of n, and of any number
module _ (u v x : List ℕ) (a n : ℕ) (k : length u ≡ a) (l : length v ≡ n) where
  pub second_of_three : part a (a + n) (u ++ (v ++ x)) ≡ v
  second_of_three = let e : a + n - a ≡ n = omega arith in rw (drop_at u (v ++ x) a k, e) (take_at v x n l)

  pub third_of_three : drop (a + n) (u ++ (v ++ x)) ≡ x
  third_of_three = rw (← drop-drop n a (u ++ (v ++ x)), drop_at u (v ++ x) a k) (drop_at v x n l)

pub three_whole : (a n : ℕ) (u : List ℕ) → take a u ++ (part a (a + n) u ++ drop (a + n) u) ≡ u
three_whole a n u =
    let e : a + n - a ≡ n = omega arith in
    rw (e, ← drop-drop n a u, take-append-drop n (drop a u)) (take-append-drop a u)
