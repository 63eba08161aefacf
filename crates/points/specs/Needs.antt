-- What the functions ask of their arguments.
use Rattle.std.specs.Prelude.{List, ℕ, ◌<◌, Float, length, get_or, ◌≡◌}

-- a label with an entry in both lists
pub record Listed (ins quads : List Float) (label : ℕ) : Type 0 where
  pub in_phase : label < length ins
  pub quadrature : label < length quads

-- labels that all have one
abbrev pub AllListed : List Float → List Float → List ℕ → Type 0
AllListed ins quads labels = (r : ℕ) → r < length labels → Listed ins quads (get_or labels r 0)

-- and areas for their coordinates
pub record Areas (labels : List ℕ) (ins quads is qs : List Float) : Type 0 where
  pub listed : AllListed ins quads labels
  pub i_long : length is ≡ length labels
  pub q_long : length qs ≡ length labels
