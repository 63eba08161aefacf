-- Laws of reading a slot: its answer and its area where the call is refused before the slot is looked at, and where not.
use Rattle.std.specs.Prelude.{◌≡◌, List, ℕ, eqb}
use Rattle.std.proofs.Common.{ap, ◌∙◌}
use borrow.Author.Tests.{eq-eqb, ne_eqb}
use Rattle.lists.specs.Choice.{pick}
use Rattle.lists.specs.ChoiceLaws.{then_first, then_next}
use Rattle.plan.specs.declared.FrameState.{FrameState}
use Rattle.codeword.proofs.AnswerLaws.{earlier_position}
use Rattle.codeword.specs.Reading.{position_with}
use Rattle.slot.specs.declared.SlotRead.{SlotRead}
use Rattle.slot.specs.Reading.{received_number, stuff_in, stuff_with, not_read, source_of, failing_in}
use Rattle.slot.specs.Calls.{rows_at, slot_number, next_state, read_number, read_answer, read_area}
use Rattle.slot.proofs.CallLaws.{slot_earlier}

-- an answer is its number, its state, its stuff bits and its position
pub answer≡ : {m n : ℕ} {s t : FrameState} {u v x y : ℕ} → m ≡ n → s ≡ t → u ≡ v → x ≡ y
    → ◌≡◌ {A = SlotRead} (record { number = m; state = s; stuff = u; position = x }) (record { number = n; state = t; stuff = v; position = y })
answer≡ p q e d = cc

module _ (s : FrameState) (t c source : List ℕ) where
  -- "A refusal changes no lent octet and no state handed in"
  module _ (h : slot_number s t source c ≡ 0 → ⊥) where
    pub read_number_refused : read_number s t c source ≡ slot_number s t source c
    unfolding read_number
    read_number_refused = then_first _ _ h

    pub read_answer_refused : read_answer s t c source ≡ not_read (slot_number s t source c) s
    unfolding read_answer
    read_answer_refused =
        let n = slot_number s t source c in
        let e = ne_eqb n 0 h in
        answer≡ read_number_refused (rw e) (rw (read_number_refused, e))
        (ap (λ (m : ℕ). position_with m (failing_in (rows_at s) t c)) read_number_refused ∙ earlier_position n (failing_in (rows_at s) t c) (slot_earlier s t source c) h)

    pub read_area_refused : read_area s t c source ≡ source
    unfolding read_area
    read_area_refused = rw (read_number_refused, ne_eqb (slot_number s t source c) 0 h)

  -- "save that 8, 9 .. move the slot reader on one place with the register stepped as for a good slot"
  module _ (h : slot_number s t source c ≡ 0) where
    pub read_number_looked : read_number s t c source ≡ received_number (rows_at s) t s.mask s.register c
    unfolding read_number
    read_number_looked = then_next _ _ h

    pub read_answer_looked : read_answer s t c source
        ≡ record {
          number = received_number (rows_at s) t s.mask s.register c;
          state = next_state s;
          stuff = stuff_with (received_number (rows_at s) t s.mask s.register c) (stuff_in (rows_at s) s.mask s.register c);
          position = position_with (received_number (rows_at s) t s.mask s.register c) (failing_in (rows_at s) t c);
        }
    unfolding read_answer
    read_answer_looked = answer≡ read_number_looked (rw (eq-eqb (slot_number s t source c) 0 h)) (rw read_number_looked) (rw read_number_looked)

    pub read_area_looked : read_area s t c source ≡ pick (eqb (received_number (rows_at s) t s.mask s.register c) 0) (source_of (rows_at s) s.mask s.register c) source
    unfolding read_area
    read_area_looked = rw read_number_looked
