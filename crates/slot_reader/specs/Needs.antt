-- What the functions ask of their arguments, and what reading a slot leaves.
use Rattle.std.specs.Prelude.{◌≡◌, List, ℕ, ◌^◌, ◌<◌, eqb, length}
use Rattle.lists.specs.Choice.{pick}
use Rattle.lists.specs.Runs.{Bits}
use Rattle.plan.specs.Needs.{Rows}
use Rattle.plan.specs.Sizes.{slot_width}
use Rattle.codeword.specs.Words.{run_bits}
use Rattle.codeword.specs.Reading.{position_with}
use Rattle.slot.specs.Areas.{Checked}
use Rattle.slot.specs.Slots.{source_octets, slot_shape, register_after}
use Rattle.slot.specs.Reading.{received_number, stuff_in, stuff_with, source_of, failing_in}

-- what the parity check of a slot is lent, with a register
pub record Held (R r : ℕ) (t coded bits input sums : List ℕ) : Type 0 where
  pub checked : Checked R t coded bits input sums
  pub held : r < 2 ^ slot_width

-- the same, with an area for header and data octets
pub record Readable (R r : ℕ) (t coded bits input sums source : List ℕ) : Type 0 where
  pub word : Held R r t coded bits input sums
  pub long : length source ≡ source_octets R

-- the bits before the parity, and an area for header and data octets
pub record Taken (R : ℕ) (plain source : List ℕ) : Type 0 where
  pub rate : Rows R
  pub all : length plain ≡ run_bits (slot_shape R)
  pub bits : Bits plain
  pub long : length source ≡ source_octets R

-- a slot read: number, register, stuff bits, position and area are those of the definitions
pub record ReadOf (R : ℕ) (t : List ℕ) (mask r : ℕ) (c source : List ℕ) (n g x p : ℕ) (left : List ℕ) : Type 0 where
  pub number : n ≡ received_number R t mask r c
  pub register : g ≡ register_after R mask r
  pub stuff : x ≡ stuff_with (received_number R t mask r c) (stuff_in R mask r c)
  pub position : p ≡ position_with (received_number R t mask r c) (failing_in R t c)
  pub area : left ≡ pick (eqb (received_number R t mask r c) 0) (source_of R mask r c) source
