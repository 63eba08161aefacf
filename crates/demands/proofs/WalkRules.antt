-- Any walk from opening, proved.
use Rattle.std.specs.Prelude.{◌≡◌, ℕ, ◌+◌, leb}
use Rattle.std.proofs.Math.Path.{refl}
use Rattle.std.proofs.Common.{sym, ◌∙◌, eq-eqb, ne_eqb}
use mathlib.Core.List.{List, [], ◌∷◌}
use Rattle.lists.specs.Count.{every}
use Rattle.lists.specs.ChoiceLaws.{pick_each, then_each}
use Rattle.refusal.specs.Numbers.{DUMMY, FULL, LENGTH, TABLE, PARITY, BCH}
use Rattle.plan.specs.declared.Plan.{Plan}
use Rattle.plan.specs.declared.FrameState.{FrameState}
use Rattle.plan.specs.Records.{plan_in}
use Rattle.plan.specs.Places.{carries}
use Rattle.plan.specs.States.{opened, sound_number, state_number, pass_number, passed}
use Rattle.plan.proofs.StateLaws.{sound_yes, pass_ready}
use Rattle.slot.specs.Slots.{source_octets, slot_shape}
use Rattle.slot.specs.Reading.{received_number}
use Rattle.slot.specs.Calls.{rows_at, data_number, slot_number, next_state, code_answer, code_area, read_number as readSlotNumber, read_answer}
use Rattle.slot.proofs.CallLaws.{accepted_slot}
use Rattle.slot.proofs.RoundTrips as slots
use Rattle.frame.proofs.StepLaws.{after_data, after_dummy}
use Rattle.frame.specs.Frames.{state_before}
use Rattle.frame.proofs.FrameLaws.{first_state, state_more, state_sound}
use Rattle.demands.proofs.NumberRules.{test, lent_each, word_each}
use Rattle.demands.specs.CallStatements.{Own, MovesTo, Stays, NotRefused, AnyWalk}

-- a state on the way, from opening, before slot k + 1
module _ (p : Plan) (mask start k : ℕ) where
  abbrev here : FrameState
  here = state_before p mask start k

  abbrev next : FrameState
  next = state_before p mask start (k + 1)

  next_data : (t source area : List ℕ) → slot_number here t source area ≡ 0 → next_state here ≡ next
  next_data t source area h = sym (after_data here [] (accepted_slot here t source area h).place.carries) ∙ state_more p mask start k

  moves_to : MovesTo here next
  unfolding code_answer passed
  moves_to = record {
    coding = λ t source area h. slots.coded_state here t source area h ∙ next_data t source area h;
    reading = λ t received area m. slots.read_state here t received area m ∙ next_data t area received ((slots.read_moves here t received area).0 m);
    passing = λ h. rw (eq-eqb (pass_number here) 0 h) (sym (after_dummy here [] (pass_ready here h).1) ∙ state_more p mask start k);
  }

-- a refusal leaves every state
stays : (s : FrameState) → Stays s
unfolding code_answer read_answer passed
stays s = record {
  coding = λ t source area d. rw (ne_eqb (slot_number s t source area) 0 d);
  reading = λ t received area d. rw (ne_eqb (slot_number s t area received) 0 (λ e. d ((slots.read_moves s t received area).1 e)));
  passing = λ d. rw (ne_eqb (pass_number s) 0 d);
}

-- the numbers of a state whose plan and register are sound
module _ (s : FrameState) (o : sound_number s ≡ 0) where
  state_sound_each : (Q : ℕ → Type 0) → Q 0 → Q FULL → Q (state_number s)
  unfolding state_number
  state_sound_each Q z f =
      let none : Q (sound_number s) = rw o z in
      then_each Q none (test Q z (leb s.slot 120) FULL f)

  slot_sound_each : (Q : ℕ → Type 0) → Q 0 → Q FULL → Q DUMMY → Q LENGTH → Q TABLE → (t source area : List ℕ) → Q (slot_number s t source area)
  unfolding slot_number data_number
  slot_sound_each Q z f d l e t source area =
      then_each Q (then_each Q (state_sound_each Q z f) (test Q z (carries (plan_in s) s.slot) DUMMY d))
      (lent_each Q z l e (slot_shape (rows_at s)) (source_octets (rows_at s)) t source area)

  read_sound_each : (Q : ℕ → Type 0) → Q 0 → Q FULL → Q DUMMY → Q LENGTH → Q TABLE → Q PARITY → Q BCH → (t received area : List ℕ) → Q (readSlotNumber s t received area)
  unfolding readSlotNumber received_number
  read_sound_each Q z f d l e h b t received area =
      then_each Q (slot_sound_each Q z f d l e t area received) (word_each Q z h b (slot_shape (rows_at s)) t s.mask s.register received)

  pass_sound_each : (Q : ℕ → Type 0) → Q 0 → Q FULL → Q DUMMY → Q (pass_number s)
  unfolding pass_number
  pass_sound_each Q z f d = then_each Q (state_sound_each Q z f) (pick_each Q (carries (plan_in s) s.slot) d z)

  not_refused : NotRefused s
  unfolding code_answer read_answer passed
  not_refused =
      record {
        coding = slot_sound_each (Own (FULL ∷ DUMMY ∷ LENGTH ∷ TABLE ∷ [])) refl refl refl refl refl;
        reading = read_sound_each (Own (FULL ∷ DUMMY ∷ LENGTH ∷ TABLE ∷ PARITY ∷ BCH ∷ [])) refl refl refl refl refl refl refl;
        passing = pass_sound_each (Own (FULL ∷ DUMMY ∷ [])) refl refl refl;
      }

pub any_walk : AnyWalk
unfolding opened code_answer code_area rows_at
any_walk p mask start o = record {
  begins = first_state p mask start o;
  moves = λ k h. moves_to p mask start k;
  stays = λ k h. stays (state_before p mask start k);
  codes = λ k h t source area e. rw (eq-eqb (slot_number (state_before p mask start k) t source area) 0 e);
  sound = λ k h. not_refused (state_before p mask start k) (sound_yes (state_before p mask start k) (state_sound p mask start o k));
}
