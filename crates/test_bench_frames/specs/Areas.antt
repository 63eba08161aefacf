-- The areas that hold the table and the octets of a frame of any rate.
use Rattle.std.specs.Prelude.{◌≡◌, List, ℕ, length}

-- an area for a table, and two for all header and data octets, those to code and those that reading finds
pub record Room (table source found : List ℕ) : Type 0 where
  pub numbers : length table ≡ 510
  pub octets : length source ≡ 608520
  pub others : length found ≡ 608520
