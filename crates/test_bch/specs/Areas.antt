-- What a line of bits asks.
use Rattle.std.specs.Prelude.{◌≡◌, List, ℕ, ◌*◌, ◌≤◌, length}

-- an area for the octets' bits, a place in it, and an area for the BCH bits
pub record Areas (octets : List ℕ) (from : ℕ) (run bch : List ℕ) : Type 0 where
  pub eights : length run ≡ 8 * length octets
  pub within : from ≤ length run
  pub area : length bch ≡ 192
