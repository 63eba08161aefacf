-- Laws of runs, over the bound that each element is below: 2 for bits, 256 for octets.
use Rattle.std.specs.Prelude.{List, [], ◌∷◌, ◌++◌, ℕ, zero, suc, ◌+◌, ◌-◌, ◌<◌, ◌≤◌, get_or, take, drop, replicate}
use Rattle.std.proofs.Common.{arith, get_or-drop}
use Rattle.lists.specs.Parts.{part}

-- every element is below n + 1; `Bits` is `Below 1`, and `Octets` is `Below 255`
abbrev pub Below : ℕ → List ℕ → Type 0
Below n u = (k : ℕ) → get_or u k 0 < suc n

pub below_drop : (b n : ℕ) (u : List ℕ) → Below b u → Below b (drop n u)
below_drop b n u z k = rw (get_or-drop n u k 0) (z (n + k))

pub below_take : (b n : ℕ) (u : List ℕ) → Below b u → Below b (take n u)
below_take b zero u z k = omega arith
below_take b (suc n) [] z k = omega arith
below_take b (suc n) (x ∷ u) z zero = z zero
below_take b (suc n) (x ∷ u) z (suc k) = below_take b n u (λ j. z (suc j)) k

pub below_part : (b a e : ℕ) (u : List ℕ) → Below b u → Below b (part a e u)
below_part b a e u z = below_take b (e - a) (drop a u) (below_drop b a u z)

pub below_append : (b : ℕ) (u v : List ℕ) → Below b u → Below b v → Below b (u ++ v)
below_append b [] v p q k = q k
below_append b (x ∷ u) v p q zero = p zero
below_append b (x ∷ u) v p q (suc k) = below_append b u v (λ j. p (suc j)) q k

pub below_replicate : (b n x : ℕ) → x ≤ b → Below b (replicate n x)
below_replicate b zero x h k = omega arith
below_replicate b (suc n) x h zero = omega arith
below_replicate b (suc n) x h (suc k) = below_replicate b n x h k
