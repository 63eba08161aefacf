-- What the functions ask of their arguments.
use Rattle.std.specs.Prelude.{◌≡◌, List, ℕ, ◌*◌, ◌≤◌, length}
use Rattle.lists.specs.Runs.{Bits}

-- at most n bits
pub record OfBits (n : ℕ) (u : List ℕ) : Type 0 where
  pub few : length u ≤ n
  pub bits : Bits u

-- bits that make whole octets
pub record Packed (u octets : List ℕ) : Type 0 where
  pub eights : length u ≡ 8 * length octets
  pub bits : Bits u
