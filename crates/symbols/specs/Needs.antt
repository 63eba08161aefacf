-- What the functions ask of their arguments, and what those that change places of a run leave.
use Rattle.std.specs.Prelude.{◌≡◌, List, ℕ, ◌+◌, ◌*◌, ◌/◌, ◌%◌, ◌^◌, ◌<◌, ◌≤◌, length, get_or}
use Rattle.lists.specs.Count.{table}
use Rattle.lists.specs.Runs.{Bits}
use Rattle.plan.specs.Sizes.{slot_bits}
use Rattle.plan.specs.Needs.{Between}

-- place k of s labels under modulation m
pub record PlaceOf (m s k : ℕ) : Type 0 where
  pub known : Between 1 5 m
  pub place : k < m
  pub few : s ≤ slot_bits

-- as many bits as the labels have under modulation m
pub record Shared (m : ℕ) (bits labels : List ℕ) : Type 0 where
  pub known : Between 1 5 m
  pub long : length bits ≡ m * length labels
  pub few : length labels ≤ slot_bits

-- the same of bits that are to be labelled
pub record Labelling (m : ℕ) (u labels : List ℕ) : Type 0 where
  pub shared : Shared m u labels
  pub bits : Bits u

-- octets, an area for their bits, and labels that have these bits
pub record Areas (m : ℕ) (octets bits labels : List ℕ) : Type 0 where
  pub eights : length bits ≡ 8 * length octets
  pub shared : Shared m bits labels

-- from start on, every step bits, there is a bit for each label
pub record Strided (bits : List ℕ) (start step : ℕ) (labels : List ℕ) : Type 0 where
  pub small : Between 1 5 step
  pub within : (r : ℕ) → r < length labels → start + step * r < length bits

-- labels that have room for one of these bits each
pub record Taking (u : List ℕ) (start step : ℕ) (labels : List ℕ) : Type 0 where
  pub strided : Strided u start step labels
  pub bits : Bits u
  pub room : (r : ℕ) → get_or labels r 0 < 128

-- each label with one of the bits below its own
unfoldable pub grown : List ℕ → ℕ → ℕ → List ℕ → List ℕ
grown bits start step labels = table (length labels) (λ r. get_or labels r 0 * 2 + get_or bits (start + step * r) 0)

-- an area after n values f 0, f 1, .. were put into it, from start on, every step elements
pub record Put (n : ℕ) (f : ℕ → ℕ) (start step : ℕ) (found left : List ℕ) : Type 0 where
  pub long : length left ≡ length found
  pub there : (r : ℕ) → r < n → get_or left (start + step * r) 0 ≡ f r
  pub others : (j : ℕ) → ((r : ℕ) → r < n → j ≡ start + step * r → ⊥) → get_or left j 0 ≡ get_or found j 0

-- the bit of weight 2^shift of each label
abbrev pub weighed : List ℕ → ℕ → ℕ → ℕ
weighed labels shift r = get_or labels r 0 / 2 ^ shift % 2

-- labels with a place for the bit of weight 2^shift of each
pub record Putting (labels : List ℕ) (shift start step : ℕ) (bits : List ℕ) : Type 0 where
  pub few : shift < 5
  pub strided : Strided bits start step labels
