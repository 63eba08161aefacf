-- What the functions ask of their arguments, and what reading leaves.
use Rattle.std.specs.Prelude.{◌≡◌, true, List, ℕ, ◌*◌, ◌^◌, ◌<◌, length, take, ◌+◌, ◌≤◌}
use Rattle.lists.specs.Runs.{Bits}
use Rattle.parity_table.specs.Tables.{positions, table_ok}
use Rattle.codeword.specs.declared.Shape.{Shape}
use Rattle.codeword.specs.Words.{run_bits, register_after}
use Rattle.codeword.specs.Reading.{taken_off, wrong_position, position_with, word_number}

-- sizes that add up: the parity input has 374 bits a row, and the word is whole octets
pub record Fits (F : Shape) : Type 0 where
  pub wide : 1 ≤ F.width
  pub narrow : F.width ≤ 25
  pub some : 1 ≤ F.rows
  pub few : F.rows ≤ 119
  pub input : F.before + (run_bits F + F.behind) ≡ 374 * F.rows
  pub whole : run_bits F + positions F.rows ≡ 8 * F.octets

-- the bits before the parity, and an area for the parity input
pub record Input (F : Shape) (run input : List ℕ) : Type 0 where
  pub fits : Fits F
  pub run_long : length run ≡ run_bits F
  pub room : length input ≡ 374 * F.rows

-- an accepted table, a word's bits, and an area for the parity input
pub record Room (F : Shape) (t bits input : List ℕ) : Type 0 where
  pub fits : Fits F
  pub table : table_ok F.rows t ≡ true
  pub bits_long : length bits ≡ 8 * F.octets
  pub room : length input ≡ 374 * F.rows

-- the same, with a register and an area for the word's octets
pub record Coding (F : Shape) (r : ℕ) (t bits input coded : List ℕ) : Type 0 where
  pub lent : Room F t bits input
  pub held : r < 2 ^ F.width
  pub coded_long : length coded ≡ F.octets

-- what the parity check is lent: the word's octets, and an area for the sums too
pub record Checked (F : Shape) (t coded bits input sums : List ℕ) : Type 0 where
  pub lent : Room F t bits input
  pub sums_long : length sums ≡ positions F.rows
  pub coded_long : length coded ≡ F.octets

-- the same, with a register
pub record Received (F : Shape) (r : ℕ) (t coded bits input sums : List ℕ) : Type 0 where
  pub checked : Checked F t coded bits input sums
  pub held : r < 2 ^ F.width

-- the bits before the parity
pub record Run (F : Shape) (run : List ℕ) : Type 0 where
  pub fits : Fits F
  pub long : length run ≡ run_bits F
  pub bits : Bits run

-- a word read: its number, the position told beside it, the register after it, and its bits with dispersal taken off
pub record ReadOf (F : Shape) (t : List ℕ) (mask r : ℕ) (c : List ℕ) (n p g : ℕ) (bits : List ℕ) : Type 0 where
  pub number : n ≡ word_number F t mask r c
  pub position : p ≡ position_with (word_number F t mask r c) (wrong_position F t c)
  pub register : g ≡ register_after F mask r
  pub plain : take (run_bits F) bits ≡ taken_off F mask r c
