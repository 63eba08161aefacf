-- Runs of bits and of octets.
use Rattle.std.specs.Prelude.{List, ℕ, ◌<◌, get_or}

-- every element is 0 or 1
abbrev pub Bits : List ℕ → Type 0
Bits u = (k : ℕ) → get_or u k 0 < 2

-- every element is below 256
abbrev pub Octets : List ℕ → Type 0
Octets u = (k : ℕ) → get_or u k 0 < 256
