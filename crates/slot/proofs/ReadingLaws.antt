-- Laws of a received slot: what its stuff bits say, and the numbers that reading answers, 0 exactly when both checks hold.
use Rattle.std.specs.Prelude.{◌≡◌, refl, Bool, true, false, List, ◌↔◌, ℕ, ◌<◌, eqb, length}
use Rattle.std.proofs.Math.Path.{sym, ap}
use Rattle.std.proofs.Common.{◌∙◌, inl, inr, arith}
use Rattle.std.proofs.Math.Seq.{take_all}
use Rattle.lists.specs.Choice.{pick, and_then}
use Rattle.refusal.specs.Numbers.{PARITY, BCH}
use Rattle.bits.specs.Digits.{digits, number}
use Rattle.bits.specs.DigitLaws.{number_lt, digits_number}
use Rattle.bits.specs.Octets.{bits_of}
use Rattle.bits.specs.OctetLaws.{length_octets_of, octets_of_octets, bits_octets}
use Rattle.parity_table.specs.Tables.{positions}
use Rattle.plan.specs.Needs.{Rows}
use Rattle.plan.specs.Sizes.{slot_octets}
use Rattle.codeword.specs.Reading.{taken_off, message_in, tail_in, wrong_position, parity_number, bch_right, checks_number, word_number, Good}
use Rattle.codeword.proofs.ReadingLaws.{word_good, message_in_bits, tail_in_bits, message_in_long, tail_in_long}
use Rattle.slot.specs.Slots.{source_octets, stuff_bits, slot_shape}
use Rattle.slot.proofs.SlotLaws.{sizes, fits, Source}
use Rattle.slot.specs.Reading.{received_number, stuff_in, stuff_ones, source_of, MovesOn}

-- six ones are the number 63
ones_number : number 6 stuff_bits ≡ 63
unfolding number
ones_number = refl

ones_digits : digits 6 63 ≡ stuff_bits
unfolding digits
ones_digits = refl

-- the stuff bits of a received slot: six bits, ..
module _ (R mask r : ℕ) (c : List ℕ) where
  pub stuff_below : stuff_in R mask r c < 64
  unfolding stuff_in
  stuff_below = number_lt 6 (tail_in (slot_shape R) (taken_off (slot_shape R) mask r c)) (tail_in_bits (slot_shape R) c mask r)

  module _ (w : Rows R) (l : length c ≡ slot_octets) where
    -- .. which are the digits of their number, first bit the highest
    pub stuff_digits : digits 6 (stuff_in R mask r c) ≡ tail_in (slot_shape R) (taken_off (slot_shape R) mask r c)
    unfolding stuff_in
    stuff_digits =
        let e = tail_in (slot_shape R) (taken_off (slot_shape R) mask r c) in
        let n = tail_in_long (slot_shape R) c (fits R w) l mask r in
        digits_number 6 e (omega (arith, n)) (tail_in_bits (slot_shape R) c mask r) ∙ take_all 6 e (omega (arith, n))

    -- they are six ones exactly when that is 63
    pub stuff_ones_law : (tail_in (slot_shape R) (taken_off (slot_shape R) mask r c) ≡ stuff_bits) ↔ (stuff_in R mask r c ≡ stuff_ones)
    unfolding stuff_in
    stuff_ones_law = ((λ e. ap (number 6) e ∙ ones_number), (λ e. sym stuff_digits ∙ ap (digits 6) e ∙ ones_digits))

-- reading answers 0 exactly when both checks hold
pub received_good : (R : ℕ) (t : List ℕ) (mask r : ℕ) (c : List ℕ) → Rows R → length c ≡ slot_octets → (received_number R t mask r c ≡ 0) ↔ Good (slot_shape R) t mask r c
unfolding received_number
received_good R t mask r c w l = word_good (slot_shape R) t mask r c (fits R w) l

one_of_three : (p b : Bool) → MovesOn (and_then (pick p 0 PARITY) (pick b 0 BCH))
one_of_three false b = inr (inl refl)
one_of_three true false = inr (inr refl)
one_of_three true true = inl refl

-- a received slot has no other
pub received_numbers : (R : ℕ) (t : List ℕ) (mask r : ℕ) (c : List ℕ) → MovesOn (received_number R t mask r c)
unfolding received_number word_number checks_number parity_number
received_numbers R t mask r c =
    let F = slot_shape R in
    one_of_three (eqb (wrong_position F t c) (positions R)) (bch_right F (taken_off F mask r c))

-- header and data octets of a received slot
pub source_of_source : (R mask r : ℕ) (c : List ℕ) → Source R (source_of R mask r c)
unfolding source_of
source_of_source R mask r c =
    record { octets = octets_of_octets (source_octets R) _ (message_in_bits (slot_shape R) c mask r); long = length_octets_of (source_octets R) _ }

-- and their bits
pub source_of_bits : (R mask r : ℕ) (c : List ℕ) → Rows R → length c ≡ slot_octets → bits_of (source_of R mask r c) ≡ message_in (slot_shape R) (taken_off (slot_shape R) mask r c)
unfolding source_of
source_of_bits R mask r c w l =
    let F = slot_shape R in
    bits_octets (source_octets R) (message_in F (taken_off F mask r c)) (message_in_long F c (fits R w) l mask r ∙ (sizes R w).source) (message_in_bits F c mask r)
