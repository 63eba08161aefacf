-- What the functions ask of their arguments.
use Rattle.std.specs.Prelude.{◌≡◌, List, ℕ, ◌<◌, length}
use Rattle.lists.specs.Runs.{Bits}
use Rattle.bch.specs.declared.division.Words.{Words}
use Rattle.bch.specs.Words.{Table}

-- a message of bits, and an area for its BCH bits
pub record Message (run bch : List ℕ) : Type 0 where
  pub bits : Bits run
  pub area : length bch ≡ 192

-- the table, and an octet
pub record Entry (t : List Words) (octet : ℕ) : Type 0 where
  pub table : Table t
  pub within : octet < 256

-- the table, and a run of bits
pub record Divided (t : List Words) (run : List ℕ) : Type 0 where
  pub table : Table t
  pub bits : Bits run

-- a message of bits, and received BCH bits
pub record Received (run received : List ℕ) : Type 0 where
  pub bits : Bits run
  pub long : length received ≡ 192
