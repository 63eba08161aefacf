-- The areas that hold the tables and the octets of any plan.
use Rattle.std.specs.Prelude.{◌≡◌, ℕ, List, length}

-- room for eight tables, and for the header and data octets of a frame at the highest rate
pub record Room (tables source : List ℕ) : Type 0 where
  pub numbers : length tables ≡ 4080
  pub most : length source ≡ 608520
