-- Demand 3 for slots at one place (document 01, "What demand 3 compares"): one row count, one parity table, one mask
-- and one register. The clauses on BCH bits are a codeword's as they stand.
use Rattle.std.specs.Prelude.{◌≡◌, List, ◌↔◌, ℕ, ◌*◌, ◌%◌, ◌<◌, length, take, drop}
use Rattle.std.proofs.Common.{sym, ap, ◌∙◌, append-nil}
use Rattle.bits.specs.Octets.{bits_of}
use Rattle.bits.specs.OctetLaws.{bits_octets}
use Rattle.bits.specs.Sums.{added, added_three, added_octets}
use Rattle.bits.specs.SumLaws.{length_three, three_bits}
use Rattle.parity_table.specs.Tables.{positions}
use Rattle.ldpc.specs.Parity.{times}
use Rattle.plan.specs.Needs.{Rows}
use Rattle.plan.specs.Sizes.{slot_octets}
use Rattle.codeword.specs.Words.{run_bits, zeros, parity_input, word_of}
use Rattle.codeword.specs.Reading.{run_in}
use Rattle.codeword.proofs.DemandThree as words
use Rattle.slot.specs.Slots.{source_octets, stuff_bits, slot_shape, slot_of}
use Rattle.slot.proofs.SlotLaws.{Source, sizes, fits, message}
use Rattle.slot.specs.Reading.{covered, parity, source_of}
use Rattle.slot.proofs.RoundTrips.{coded_read}

-- a slot's parity input has no zeros before or behind its bits
input_is : (R : ℕ) (c : List ℕ) → Rows R → parity_input (slot_shape R) (run_in (slot_shape R) c) ≡ covered R c
unfolding parity_input zeros
input_is R c w = append-nil (run_in (slot_shape R) c) ∙ ap (λ (n : ℕ). take n (bits_of c)) (sizes R w).covered

parity_is : (R : ℕ) (c : List ℕ) → Rows R → drop (run_bits (slot_shape R)) (bits_of c) ≡ parity R c
parity_is R c w = ap (λ (n : ℕ). drop n (bits_of c)) (sizes R w).covered

-- two slots at one place
module _ (R : ℕ) (t : List ℕ) (mask r : ℕ) (x y : List ℕ) (w : Rows R) (a : Source R x) (b : Source R y) where
  -- they are equal exactly when header and data are
  pub slots_equal : (slot_of R t mask r x ≡ slot_of R t mask r y) ↔ (x ≡ y)
  slots_equal = (
    (λ e. sym (coded_read R t mask r x w a).source ∙ ap (source_of R mask r) e ∙ (coded_read R t mask r y w b).source),
    ap (slot_of R t mask r),
  )

  -- the last M bits are equal exactly when the bits that differ among the first 374 × R, as sent, reach each position
  -- an even number of times
  pub parity_equal : (parity R (slot_of R t mask r x) ≡ parity R (slot_of R t mask r y))
      ↔ ((j : ℕ) → j < positions R → times R t (added (covered R (slot_of R t mask r x)) (covered R (slot_of R t mask r y))) j % 2 ≡ 0)
  unfolding slot_of
  parity_equal =
      rw (← parity_is R (slot_of R t mask r x) w, ← parity_is R (slot_of R t mask r y) w, ← input_is R (slot_of R t mask r x) w, ← input_is R (slot_of R t mask r y) w)
      (words.parity_equal (slot_shape R) t mask r (bits_of x) (bits_of y) stuff_bits (fits R w) (message R x w a.long) (message R y w b.long))

-- three slots added are the slot of the added header and data
pub slots_three : (R : ℕ) (t : List ℕ) (mask r : ℕ) (x y z : List ℕ) → Rows R → Source R x → Source R y → Source R z
    → slot_of R t mask r (added_octets (source_octets R) x y z) ≡ added_octets slot_octets (slot_of R t mask r x) (slot_of R t mask r y) (slot_of R t mask r z)
unfolding slot_of added_octets
slots_three R t mask r x y z w a b c =
    let u = added_three (bits_of x) (bits_of y) (bits_of z) in
    let m = message R x w a.long in
    let long : length u ≡ 8 * source_octets R = length_three (bits_of x) (bits_of y) (bits_of z) ∙ m.long ∙ (sizes R w).source in
    ap (λ (s : List ℕ). word_of (slot_shape R) t mask r s stuff_bits) (bits_octets (source_octets R) u long (three_bits (bits_of x) (bits_of y) (bits_of z)))
    ∙ words.words_three (slot_shape R) t mask r (bits_of x) (bits_of y) (bits_of z) stuff_bits (fits R w) m (message R y w b.long) (message R z w c.long)
