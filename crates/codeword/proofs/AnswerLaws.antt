-- Laws of what is answered of a received word: a number that is tested before the word itself is read is none of 8 and 9, so no
-- position is told beside it; beside 8 it is the lowest failing one.
use Rattle.std.specs.Prelude.{◌≡◌, refl, Bool, true, ◌||◌, List, ℕ, ltb}
use Rattle.std.proofs.Common.{arith, sym, ap, ◌∙◌, inl, inr, eq-eqb, ne_eqb}
use Rattle.std.proofs.lemmas.Bool.{false≢true}
use Rattle.std.proofs.Math.Decide.{ℕ_discrete}
use Rattle.lists.specs.Choice.{pick, and_then}
use Rattle.lists.specs.ChoiceLaws.{pick_each, then_each, then_first, then_next}
use Rattle.refusal.specs.Numbers.{PARITY, BCH}
use Rattle.refusal.specs.Answers.{number_of}
use Rattle.refusal.specs.declared.Refusal.{Refusal}
use Rattle.refusal.specs.declared.Refusal.TheVariants.{Plan, Dummy, Full, Length, Table, Register, Sync, Parity, Bch, Tail, Label, Value, Order, Total, Packet, Block, Coordinate}
use Rattle.codeword.specs.declared.Shape.{Shape}
use Rattle.codeword.specs.declared.WordAnswer.{WordAnswer}
use Rattle.codeword.specs.Reading.{wrong_position, parity_number, no_position, position_of, position_with, word_answer, OfWord, PositionTold}
use Rattle.codeword.proofs.ReadingLaws.{failing_there}

-- an answer is its number and its position
pub answer≡ : {m n x y : ℕ} → m ≡ n → x ≡ y → ◌≡◌ {A = WordAnswer} (record { number = m; position = x }) (record { number = n; position = y })
answer≡ p q = cc

-- a number that is tested before the word itself is read: none of 8 and 9
abbrev pub Earlier : ℕ → Type 0
Earlier n = OfWord n → n ≡ 0

-- below 8 or above 9
abbrev pub beside : ℕ → Bool
beside n = ltb n PARITY || ltb BCH n

pub earlier : (n : ℕ) → beside n ≡ true → Earlier n
earlier n h (inl e) = e
earlier n h (inr (inl e)) = absurd (false≢true (rw e at h))
earlier n h (inr (inr e)) = absurd (false≢true (rw e at h))

pub earlier_then : {a b : ℕ} → Earlier a → Earlier b → Earlier (and_then a b)
earlier_then = then_each Earlier

pub earlier_test : (b : Bool) (n : ℕ) → beside n ≡ true → Earlier (pick b 0 n)
earlier_test b n h = pick_each Earlier b (earlier 0 refl) (earlier n h)

-- so a call whose number is 0, 8 or 9 is refused for nothing that is tested before
pub earlier_none : (a b : ℕ) → Earlier a → OfWord (and_then a b) → a ≡ 0
earlier_none a b h m = go (ℕ_discrete a 0)
  where
    go : Dec (a ≡ 0) → a ≡ 0
    go (yes e) = e
    go (no d) = h (rw (then_first a b d) at m)

-- and a position is told beside none of them
pub earlier_position : (n p : ℕ) → Earlier n → (n ≡ 0 → ⊥) → position_with n p ≡ no_position
earlier_position n p h z = rw (ne_eqb n PARITY (λ e. z (h (inr (inl e)))))

-- so no refusal of such a number carries one
pub earlier_told : (r : Refusal) → Earlier (number_of r) → position_of r ≡ no_position
earlier_told (Parity p) h = let z : PARITY ≡ 0 = h (inr (inl refl)) in absurd (omega arith)
earlier_told Plan h = refl
earlier_told Dummy h = refl
earlier_told Full h = refl
earlier_told Length h = refl
earlier_told Table h = refl
earlier_told Register h = refl
earlier_told Sync h = refl
earlier_told Bch h = refl
earlier_told Tail h = refl
earlier_told Label h = refl
earlier_told Value h = refl
earlier_told Order h = refl
earlier_told Total h = refl
earlier_told Packet h = refl
earlier_told Block h = refl
earlier_told Coordinate h = refl

-- what is answered where such a number refuses, and where it does not
pub answer_refused : (a b p : ℕ) → Earlier a → (a ≡ 0 → ⊥) → word_answer (and_then a b) p ≡ record { number = a; position = no_position }
answer_refused a b p h z = ap (λ (n : ℕ). word_answer n p) (then_first a b z) ∙ answer≡ refl (earlier_position a p h z)

pub answer_looked : (a b p : ℕ) → a ≡ 0 → word_answer (and_then a b) p ≡ word_answer b p
answer_looked a b p z = ap (λ (n : ℕ). word_answer n p) (then_next a b z)

-- behind it a number b that is 8 for the parity alone tells the lowest failing position
pub position_told : (F : Shape) (t c : List ℕ) (a b : ℕ) → Earlier a → (b ≡ PARITY → parity_number F (wrong_position F t c) ≡ PARITY)
    → PositionTold F t c (and_then a b) (position_with (and_then a b) (wrong_position F t c))
position_told F t c a b h f =
    record {
      failing = λ e. rw (eq-eqb (and_then a b) PARITY e) (failing_there F t c (f (sym (then_next a b (earlier_none a b h (inr (inl e)))) ∙ e)));
      none = λ d. rw (ne_eqb (and_then a b) PARITY d);
    }
