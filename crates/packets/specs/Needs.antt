-- What the functions ask of their arguments.
use Rattle.std.specs.Prelude.{◌≡◌, List, ℕ, ◌*◌, length}

-- xs as long as n packets of 188 octets, and ys as their data octets, 187 for each
pub record OfPackets (n : ℕ) (xs ys : List ℕ) : Type 0 where
  pub packets : length xs ≡ 188 * n
  pub octets : length ys ≡ 187 * n
