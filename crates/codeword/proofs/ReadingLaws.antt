-- Laws of a received word: its parts, what each of the two checks says of them, the number that reading answers, 0 exactly when
-- both checks hold, and its lowest failing position.
use Rattle.std.specs.Prelude.{◌≡◌, refl, Bool, true, false, List, ◌↔◌, ℕ, ◌+◌, ◌*◌, ◌<◌, ◌≤◌, eqb, length}
use Rattle.std.proofs.Common.{sym, ap, ◌∙◌, arith, eqb-true, eq-eqb, length-drop, length-take-le}
use Rattle.lists.specs.Choice.{pick, and_then}
use Rattle.lists.specs.ChoiceLaws.{then_zero, then_both, not_refused}
use Rattle.lists.specs.Runs.{Bits, Octets}
use Rattle.lists.specs.RunLaws.{below_take, below_drop}
use Rattle.refusal.specs.Numbers.{PARITY, BCH}
use Rattle.bits.specs.Octets.{bits_of}
use Rattle.bits.specs.OctetLaws.{length_bits_of, bits_of_bits}
use Rattle.bits.specs.SameLaws.{same_is, same_true}
use Rattle.dispersal.specs.DispersalLaws.{length_dispersed, dispersed_bits}
use Rattle.bch.specs.Bch.{bch_bits}
use Rattle.parity_table.specs.Tables.{positions}
use Rattle.ldpc.specs.Parity.{parity_of}
use Rattle.parity_check.specs.CheckLaws.{lowest_wrong_before, lowest_wrong_there, lowest_wrong_within, lowest_wrong_none}
use Rattle.codeword.specs.declared.Shape.{Shape}
use Rattle.codeword.specs.Words.{run_bits, parity_input}
use Rattle.codeword.specs.Needs.{Fits}
use Rattle.codeword.specs.Reading.{run_in, parity_in, taken_off, message_in, bch_in, tail_in, wrong_position, parity_number, bch_right, checks_number, word_number, Good, Failing}

-- the octets of a received word
pub record Received (F : Shape) (c : List ℕ) : Type 0 where
  pub octets : Octets c
  pub long : length c ≡ F.octets

module _ (F : Shape) (c : List ℕ) where
  pub run_in_bits : Bits (run_in F c)
  run_in_bits = below_take 1 (run_bits F) (bits_of c) (bits_of_bits c)

  pub taken_off_bits : (mask r : ℕ) → Bits (taken_off F mask r c)
  unfolding taken_off
  taken_off_bits mask r = dispersed_bits F.width mask r (run_in F c)

  pub message_in_bits : (mask r : ℕ) → Bits (message_in F (taken_off F mask r c))
  message_in_bits mask r = below_take 1 F.message (taken_off F mask r c) (taken_off_bits mask r)

  pub tail_in_bits : (mask r : ℕ) → Bits (tail_in F (taken_off F mask r c))
  tail_in_bits mask r = below_drop 1 (F.message + 192) (taken_off F mask r c) (taken_off_bits mask r)

module _ (F : Shape) (c : List ℕ) (f : Fits F) (l : length c ≡ F.octets) where
  all_long : length (bits_of c) ≡ run_bits F + positions F.rows
  all_long = length_bits_of c ∙ ap (λ (n : ℕ). 8 * n) l ∙ sym f.whole

  pub run_in_long : length (run_in F c) ≡ run_bits F
  run_in_long = length-take-le (run_bits F) (bits_of c) (omega (arith, all_long))

  pub parity_in_long : length (parity_in F c) ≡ positions F.rows
  parity_in_long = length-drop (run_bits F) (bits_of c) ∙ omega (arith, all_long)

  module _ (mask r : ℕ) where
    pub taken_off_long : length (taken_off F mask r c) ≡ run_bits F
    unfolding taken_off
    taken_off_long = length_dispersed F.width mask r (run_in F c) ∙ run_in_long

    pub message_in_long : length (message_in F (taken_off F mask r c)) ≡ F.message
    message_in_long = length-take-le F.message (taken_off F mask r c) (omega (arith, taken_off_long))

    pub tail_in_long : length (tail_in F (taken_off F mask r c)) ≡ F.tail
    tail_in_long = length-drop (F.message + 192) (taken_off F mask r c) ∙ omega (arith, taken_off_long)

  -- 8: the parity received is that of the bits received before it
  pub parity_right : (t : List ℕ) → (parity_number F (wrong_position F t c) ≡ 0) ↔ (parity_in F c ≡ parity_of F.rows t (parity_input F (run_in F c)))
  unfolding wrong_position parity_number
  parity_right t =
      let none = lowest_wrong_none F.rows t (parity_input F (run_in F c)) (parity_in F c) parity_in_long in
      let least = wrong_position F t c in (
        (λ h. none.0 (eqb-true least (positions F.rows) (not_refused (eqb least (positions F.rows)) PARITY (omega arith) h))),
        (λ e. rw (eq-eqb least (positions F.rows) (none.1 e))),
      )

-- 9: the BCH bits are those of the message
pub bch_right_law : (F : Shape) (u : List ℕ) → (bch_right F u ≡ true) ↔ (bch_in F u ≡ bch_bits (message_in F u))
unfolding bch_right
bch_right_law F u =
    ((λ e. sym (same_true (bch_bits (message_in F u)) (bch_in F u) e)), (λ e. same_is (bch_bits (message_in F u)) (bch_in F u) (sym e)))

-- reading answers 0 exactly when both hold
pub word_good : (F : Shape) (t : List ℕ) (mask r : ℕ) (c : List ℕ) → Fits F → length c ≡ F.octets → (word_number F t mask r c ≡ 0) ↔ Good F t mask r c
unfolding word_number checks_number
word_good F t mask r c f l =
    let u = taken_off F mask r c in
    let p = parity_right F c f l t in
    let b = bch_right_law F u in (
      (λ h.
          let a = then_zero (parity_number F (wrong_position F t c)) _ h in
          record { parity = p.0 a.0; bch = b.0 (not_refused (bch_right F u) BCH (omega arith) a.1) }),
      (λ g. then_both (parity_number F (wrong_position F t c)) _ (p.1 g.parity) (ap (λ x. pick x 0 BCH) (b.1 g.bch))),
    )

-- a position is a number of 16 bits
pub wrong_few : (F : Shape) (t c : List ℕ) → wrong_position F t c ≤ positions F.rows
unfolding wrong_position
wrong_few F t c = lowest_wrong_within F.rows t (parity_input F (run_in F c)) (parity_in F c)

-- 8 is the parity's
pub word_parity : (F : Shape) (t : List ℕ) (mask r : ℕ) (c : List ℕ) → word_number F t mask r c ≡ PARITY → parity_number F (wrong_position F t c) ≡ PARITY
unfolding word_number checks_number parity_number
word_parity F t mask r c h = go (eqb (wrong_position F t c) (positions F.rows)) (bch_right F (taken_off F mask r c)) h
  where
    go : (p b : Bool) → and_then (pick p 0 PARITY) (pick b 0 BCH) ≡ PARITY → pick p 0 PARITY ≡ PARITY
    go false b e = refl
    go true false e = absurd (omega arith)
    go true true e = absurd (omega arith)

-- with 8 the lowest wrong position is the lowest failing one
pub failing_there : (F : Shape) (t c : List ℕ) → parity_number F (wrong_position F t c) ≡ PARITY → Failing F t c (wrong_position F t c)
unfolding wrong_position parity_number
failing_there F t c h =
    let u = parity_input F (run_in F c) in
    let w = wrong_position F t c in
    let n : w ≡ positions F.rows → ⊥ = λ e. absurd (omega (arith, rw (eq-eqb w (positions F.rows) e) at h)) in
    let l : w < positions F.rows = omega (arith, lowest_wrong_within F.rows t u (parity_in F c)) in
    record {
      below = l;
      wrong = λ e. lowest_wrong_there F.rows t u (parity_in F c) l (sym e);
      right = λ j i. sym (lowest_wrong_before F.rows t u (parity_in F c) j i);
    }
