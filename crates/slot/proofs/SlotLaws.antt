-- Laws of a coded slot: its sizes, which are a codeword's, and its octets.
use Rattle.std.specs.Prelude.{◌≡◌, refl, List, ℕ, ◌+◌, ◌-◌, ◌*◌, ◌/◌, length}
use Rattle.std.proofs.Common.{sym, ap, ◌∙◌, arith}
use Rattle.lists.specs.Runs.{Octets}
use Rattle.lists.specs.RunLaws.{below_replicate}
use Rattle.bits.specs.Octets.{bits_of}
use Rattle.bits.specs.OctetLaws.{length_bits_of, bits_of_bits}
use Rattle.dispersal.specs.Register.{after}
use Rattle.parity_table.specs.Tables.{positions}
use Rattle.plan.specs.Needs.{Rows}
use Rattle.plan.specs.Sizes.{slot_bits, slot_octets, slot_width}
use Rattle.codeword.specs.Words.{register_after as registerAfterWord}
use Rattle.codeword.specs.Needs.{Fits}
use Rattle.codeword.proofs.WordLaws.{Message, length_word_of, word_of_octets}
use Rattle.slot.specs.Slots.{message_bits, source_octets, covered_bits, stuff_bits, slot_shape, slot_of, register_after}

-- how the parts of a slot add up, for the row count of a known rate
pub record Sizes (R : ℕ) : Type 0 where
  pub source : message_bits R ≡ 8 * source_octets R
  pub covered : message_bits R + 198 ≡ covered_bits R
  pub rows : covered_bits R ≡ 374 * R
  pub all : covered_bits R + positions R ≡ slot_bits

pub sizes : (R : ℕ) → Rows R → Sizes R
unfolding message_bits source_octets covered_bits
sizes R w =
    let k = R / 4 in
    let e : R ≡ 4 * k + 1 = omega (arith, w.fours) in
    let d : R - 1 ≡ 4 * k = omega arith in
    let h = w.high in
    record { source = rw d (omega arith); covered = omega (arith, w.low); rows = omega arith; all = omega arith }

-- a slot's sizes are those of a codeword
pub fits : (R : ℕ) → Rows R → Fits (slot_shape R)
fits R w =
    let z = sizes R w in
    record {
      wide = omega arith;
      narrow = omega arith;
      some = omega (arith, w.low);
      few = omega (arith, w.high);
      input = omega (arith, z.covered, z.rows);
      whole = omega (arith, z.covered, z.all);
    }

pub register_after_law : (R mask r : ℕ) → Rows R → registerAfterWord (slot_shape R) mask r ≡ register_after R mask r
unfolding registerAfterWord register_after
register_after_law R mask r w = ap (after slot_width mask r) (sizes R w).covered

-- header and data octets of one slot
pub record Source (R : ℕ) (source : List ℕ) : Type 0 where
  pub octets : Octets source
  pub long : length source ≡ source_octets R

-- their bits are a codeword's message, and the stuff bits its tail
pub message : (R : ℕ) (source : List ℕ) → Rows R → length source ≡ source_octets R → Message (slot_shape R) (bits_of source) stuff_bits
message R source w l =
    record {
      long = length_bits_of source ∙ ap (λ (n : ℕ). 8 * n) l ∙ sym (sizes R w).source;
      bits = bits_of_bits source;
      tail_long = refl;
      tail_bits = below_replicate 1 6 1 (omega arith);
    }

pub length_slot_of : (R : ℕ) (t : List ℕ) (mask r : ℕ) (source : List ℕ) → length (slot_of R t mask r source) ≡ slot_octets
unfolding slot_of
length_slot_of R t mask r source = length_word_of (slot_shape R) t mask r _ _

pub slot_of_octets : (R : ℕ) (t : List ℕ) (mask r : ℕ) (source : List ℕ) → Octets (slot_of R t mask r source)
unfolding slot_of
slot_of_octets R t mask r source = word_of_octets (slot_shape R) t mask r _ _
