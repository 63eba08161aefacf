-- What the functions ask of their arguments.
use Rattle.std.specs.Prelude.{◌≡◌, List, ℕ, ◌*◌, ◌≤◌, length}

-- at most four octets, and an area for their digits
pub record Digits (octets digits : List ℕ) : Type 0 where
  pub few : length octets ≤ 4
  pub eights : length digits ≡ 8 * length octets
