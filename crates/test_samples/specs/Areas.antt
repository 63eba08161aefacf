-- The areas that hold the table and the octets of any rate.
use Rattle.std.specs.Prelude.{◌≡◌, List, ℕ, length}
use Rattle.plan.specs.Sizes.{most_source}

-- an area for a table, and two for header and data octets, those to code and those that reading finds
pub record Room (table source found : List ℕ) : Type 0 where
  pub numbers : length table ≡ 510
  pub octets : length source ≡ most_source
  pub others : length found ≡ most_source
