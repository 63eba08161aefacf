-- The block of a setting (document 02, N4: "One setting takes 512 octets"): where each field begins, and how many octets it
-- has.
use Rattle.std.specs.Prelude.{List, [], ◌∷◌, ℕ}

abbrev pub setting_octets : ℕ
setting_octets = 512

pub record Field : Type 0 where
  pub at : ℕ
  pub octets : ℕ

abbrev pub field : ℕ → ℕ → Field
field at octets = record { at = at; octets = octets }

-- the fields, end to end in this order
pub record Layout : Type 0 where
  pub mark : Field
  pub edition : Field
  pub count : Field
  pub groups : Field
  pub slot_mask : Field
  pub slot_start : Field
  pub tmcc_mask : Field
  pub tmcc_start : Field
  pub zeros : Field
  pub sum : Field

-- the layout of an edition, of which there is 1: "`S3PL`, edition 1 and group count in one octet each, eight groups .., then four 4-octet numbers:
-- slot mask, slot start, TMCC mask, TMCC start; then zeros; last two octets the sum"
abbrev pub layout : ℕ → Layout
layout e =
    record {
      mark = field 0 4;
      edition = field 4 1;
      count = field 5 1;
      groups = field 6 24;
      slot_mask = field 30 4;
      slot_start = field 34 4;
      tmcc_mask = field 38 4;
      tmcc_start = field 42 4;
      zeros = field 46 464;
      sum = field 510 2;
    }

-- "`S3PL`"
abbrev pub mark : List ℕ
mark = 83 ∷ 51 ∷ 80 ∷ 76 ∷ []

-- "edition 1"
abbrev pub edition : ℕ
edition = 1
