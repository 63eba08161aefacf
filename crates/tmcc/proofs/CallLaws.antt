-- Laws of the calls: all that a number 0 lets the work on a block assume, and what reading answers.
use Rattle.std.specs.Prelude.{◌≡◌, refl, true, List, ◌↔◌, ℕ, length, drop, replicate, Err}
use Rattle.std.proofs.Common.{sym, ap, subst, ◌∙◌, arith, eqb-true, eq-eqb, length-drop, take_all}
use Rattle.lists.specs.Choice.{pick}
use Rattle.lists.specs.ChoiceLaws.{then_first, then_zero, not_refused, and_left, and_right}
use Rattle.lists.specs.RunLaws.{below_drop}
use Rattle.refusal.specs.Numbers.{REGISTER, TAIL}
use Rattle.refusal.specs.Answers.{Answered, number_of}
use Rattle.refusal.specs.AnswerLaws.{refused_some, refused_by}
use Rattle.refusal.specs.declared.Refusal.{Refusal}
use Rattle.bits.specs.Digits.{digits, number}
use Rattle.bits.specs.DigitLaws.{digits_number}
use Rattle.bits.specs.Octets.{bits_of}
use Rattle.bits.specs.OctetLaws.{length_bits_of, bits_of_bits}
use Rattle.dispersal.specs.Register.{mask_ok, register_ok, settings_ok}
use Rattle.codeword.proofs.CallLaws as words
use Rattle.codeword.proofs.CallLaws.{Lent as LentWord}
use Rattle.codeword.specs.Reading.{as_word_answer, wrong_position, no_position, word_answer, word_number, PositionTold}
use Rattle.codeword.proofs.ReadingLaws.{word_parity}
use Rattle.codeword.proofs.AnswerLaws.{Earlier, answer≡, earlier_told, earlier_then, earlier_test, answer_refused, answer_looked, position_told}
use Rattle.plan.specs.Sizes.{block_width}
use Rattle.tmcc.specs.Blocks.{source_octets, message_bits, block_shape}
use Rattle.tmcc.specs.Calls.{lent_number, tail_ok, code_number, read_number, read_answer}

-- accepted settings, and what a codeword is lent
pub record Lent (mask start : ℕ) (t source block : List ℕ) : Type 0 where
  pub mask_ok_law : mask_ok block_width mask ≡ true
  pub start_ok : register_ok block_width start ≡ true
  pub areas : LentWord block_shape source_octets t source block

pub lent : (mask start : ℕ) (t source block : List ℕ) → lent_number mask start t source block ≡ 0 → Lent mask start t source block
unfolding lent_number
lent mask start t source block h =
    let a = then_zero (pick (settings_ok block_width mask start) 0 REGISTER) _ h in
    let s = not_refused (settings_ok block_width mask start) REGISTER (omega arith) a.0 in
    record { mask_ok_law = and_left (mask_ok block_width mask) _ s; start_ok = and_right (mask_ok block_width mask) _ s; areas = words.lent block_shape source_octets t source block a.1 }

-- two zeros are the number 0
zeros_number : number 2 (replicate 2 0) ≡ 0
unfolding number
zeros_number = refl

zeros_digits : digits 2 0 ≡ replicate 2 0
unfolding digits
zeros_digits = refl

-- 11: the last two bits are zeros
pub tail_right : (source : List ℕ) → length source ≡ source_octets → (tail_ok source ≡ true) ↔ (drop message_bits (bits_of source) ≡ replicate 2 0)
unfolding tail_ok
tail_right source l =
    let u = drop message_bits (bits_of source) in
    let two : length u ≡ 2 = length-drop message_bits (bits_of source) ∙ omega (arith, length_bits_of source) in
    let all = take_all 2 u (omega arith) in
    let back = digits_number 2 u (omega arith) (below_drop 1 message_bits (bits_of source) (bits_of_bits source)) in (
      (λ e. sym all ∙ sym back ∙ ap (digits 2) (eqb-true (number 2 u) 0 e) ∙ zeros_digits),
      (λ e. eq-eqb (number 2 u) 0 (ap (number 2) e ∙ zeros_number)),
    )

-- all that coding a block may assume
pub record Codable (mask start : ℕ) (t source block : List ℕ) : Type 0 where
  pub lent : Lent mask start t source block
  pub tail : tail_ok source ≡ true

pub codable : (mask start : ℕ) (t source block : List ℕ) → code_number mask start t source block ≡ 0 → Codable mask start t source block
unfolding code_number
codable mask start t source block h =
    let a = then_zero (lent_number mask start t source block) _ h in
    record { lent = lent mask start t source block a.0; tail = not_refused (tail_ok source) TAIL (omega arith) a.1 }

-- the numbers tested before the block itself is read are neither 8 nor 9
pub lent_earlier : (mask start : ℕ) (t source block : List ℕ) → Earlier (lent_number mask start t source block)
unfolding lent_number
lent_earlier mask start t source block =
    earlier_then (earlier_test (settings_ok block_width mask start) REGISTER refl) (words.lent_earlier block_shape source_octets t source block)

-- the answer of a reading: where it is refused before the block is looked at, and where it is not
module _ (mask start : ℕ) (t block source : List ℕ) where
  pub read_refused : (lent_number mask start t source block ≡ 0 → ⊥)
      → read_answer mask start t block source ≡ record { number = lent_number mask start t source block; position = no_position }
  unfolding read_answer read_number
  read_refused = answer_refused (lent_number mask start t source block) _ _ (lent_earlier mask start t source block)

  pub read_looked : lent_number mask start t source block ≡ 0
      → read_answer mask start t block source ≡ word_answer (word_number block_shape t mask start block) (wrong_position block_shape t block)
  unfolding read_answer read_number
  read_looked = answer_looked (lent_number mask start t source block) _ _

  -- a refusal of what is lent is the answer, with no position, and leaves the area
  pub lent_answer : (r : Refusal) → number_of r ≡ lent_number mask start t source block → as_word_answer {A = Unit} (Err r) ≡ read_answer mask start t block source
  lent_answer r n =
      answer≡ n (earlier_told r (subst Earlier (sym n) (lent_earlier mask start t source block))) ∙ sym (read_refused (λ z. refused_some r (n ∙ z)))

  pub lent_area : (right : List ℕ) (r : Refusal) → number_of r ≡ lent_number mask start t source block
      → Answered (read_number mask start t block source) right source (number_of r) source
  unfolding read_number
  lent_area right r n = refused_by _ right source r (n ∙ sym (then_first _ _ (λ z. refused_some r (n ∙ z))))

  -- with 8 the position is the lowest failing one
  pub read_told : PositionTold block_shape t block (read_answer mask start t block source).number (read_answer mask start t block source).position
  unfolding read_answer read_number
  read_told = position_told block_shape t block _ _ (lent_earlier mask start t source block) (word_parity block_shape t mask start block)
