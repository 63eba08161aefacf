-- N1, proved: which rule a plan breaks, and who answers it.
use Rattle.std.specs.Prelude.{◌≡◌, refl, Bool, true, false, ◌&&◌, List, ℕ, ◌+◌, leb, eqb, length}
use Rattle.std.proofs.Common.{arith, eq-eqb, ne_eqb}
use Rattle.lists.specs.Choice.{pick}
use Rattle.lists.specs.ChoiceLaws.{then_next, then_first, onward}
use Rattle.lists.specs.Count.{sum, every, joined}
use Rattle.refusal.specs.Numbers.{PLAN}
use Rattle.plan.specs.declared.FrameState.{FrameState}
use Rattle.plan.specs.Records.{plan_in}
use Rattle.plan.specs.Plans.{slots_before, groups_ok, values_ok, falls_after, plan_number}
use Rattle.plan.proofs.PlanLaws.{plan_ok_law, wrong_groups, wrong_value, wrong_order, wrong_total}
use Rattle.plan.specs.States.{open_number, opened, sound_number, state_number, pass_number, passed}
use Rattle.plan_text.specs.Reading.{line_start, lines_of, text_number, plan_of as planOfText, read_number as readTextNumber}
use Rattle.run_list.specs.Listing.{refused_text, answer_text}
use Rattle.published.specs.Published.{copy_number}
use Rattle.packets.specs.Packets.{size_number, pack_number, unpack_number}
use Rattle.symbols.specs.Labels.{slot_number as labelsNumber, slot_of_labels_number}
use Rattle.slot.specs.Calls.{data_number, slot_number, code_answer, read_number, read_answer, form_number, check_number}
use Rattle.frame.specs.Frames.{whole_number, frame_number, read_frame_number}
use Rattle.lookup.specs.Lookups.{tables_number, place_number, placed}
use Rattle.plan_octets.specs.Groups.{column, of_octets}
use Rattle.demands.specs.Requests.{PlanAccepted, PlanRefused, StateAnswers, RefusedPlanAnswered, RefusedStateAnswered, SlotZeroAnswered, RefusedTextPrinted, UnknownRefused, WorkedPlans}

pub plan_accepted : PlanAccepted
plan_accepted = plan_ok_law

pub plan_refused : PlanRefused
plan_refused p = record { groups = wrong_groups p; value = wrong_value p; order = wrong_order p; total = wrong_total p }

pub refused_plan_answered : RefusedPlanAnswered
unfolding opened open_number whole_number frame_number read_frame_number tables_number placed place_number
refused_plan_answered p h =
    let o : (mask start : ℕ) → open_number p mask start ≡ plan_number p = λ mask start. then_first (plan_number p) _ h in
    record {
      opening = o;
      code = λ mask start ts source frame. onward (open_number p mask start) _ _ (o mask start) h;
      read = λ mask start ts source frame answers stuff positions. onward (open_number p mask start) _ _ (o mask start) h;
      tables = λ area. then_first (plan_number p) _ h;
      place = λ slot. rw (ne_eqb (slot + 1) 0 (λ e. omega arith)) (then_first (plan_number p) _ h);
    }

-- the refusal of a state's slot number or plan is the answer of every call
module _ (s : FrameState) (n : ℕ) (e : sound_number s ≡ n) (h : n ≡ 0 → ⊥) where
  at_state : state_number s ≡ n
  unfolding state_number
  at_state = onward (sound_number s) _ _ e h

  at_data : data_number s ≡ n
  unfolding data_number
  at_data = onward (state_number s) _ _ at_state h

  at_slot : (t source coded : List ℕ) → slot_number s t source coded ≡ n
  unfolding slot_number
  at_slot t source coded = onward (data_number s) _ _ at_data h

  state_answers : StateAnswers s n
  unfolding passed pass_number code_answer read_answer read_number
  state_answers =
      record {
        pass = onward (state_number s) _ _ at_state h;
        code = at_slot;
        read = λ t coded source. onward (slot_number s t source coded) _ _ (at_slot t source coded) h;
      }

pub refused_state_answered : RefusedStateAnswered
unfolding sound_number
refused_state_answered s z h =
    state_answers s (plan_number (plan_in s)) (rw (ne_eqb s.slot 0 z) (then_first (plan_number (plan_in s)) _ h)) h

pub slot_zero_answered : SlotZeroAnswered
unfolding sound_number placed place_number
slot_zero_answered = (λ s z. state_answers s PLAN (rw (eq-eqb s.slot 0 z)) (λ e. omega arith), λ p. refl)

text_refused : (t : List ℕ) → (text_number t ≡ 0 → ⊥) → text_number t ≡ PLAN
unfolding text_number
text_refused t = either (leb (length t) 128 && eqb (line_start t (lines_of t)) (length t))
  where
    either : (b : Bool) → (pick b 0 PLAN ≡ 0 → ⊥) → pick b 0 PLAN ≡ PLAN
    either true h = absurd (h refl)
    either false h = refl

printed : (t : List ℕ) (n : ℕ) → readTextNumber t ≡ n → (n ≡ 0 → ⊥) → answer_text t ≡ refused_text n
unfolding answer_text
printed t n e h = rw (e, ne_eqb n 0 h)

pub refused_text_printed : RefusedTextPrinted
unfolding readTextNumber
refused_text_printed t =
    record {
      unreadable = λ h. printed t PLAN (onward (text_number t) _ _ (text_refused t h) (λ e. omega arith)) (λ e. omega arith);
      refused = λ e h. printed t (plan_number (planOfText t)) (then_next (text_number t) _ e) h;
    }

pub unknown_refused : UnknownRefused
unfolding copy_number pack_number unpack_number size_number check_number form_number labelsNumber slot_of_labels_number
unknown_refused m rate =
    record {
      table = λ h area. rw h;
      pack = λ h packets room. rw h;
      unpack = λ h octets room. rw h;
      parity = λ h t coded. rw h;
      labels = λ h octets room. rw h;
      slot = λ h labels room. rw h;
    }

pub worked_plans : WorkedPlans
unfolding plan_number groups_ok values_ok falls_after slots_before sum every joined of_octets column
worked_plans =
    record {
      alone = refl;
      no_fives = refl;
      accepted = refl;
      rising = refl;
      nine = refl;
      nine_lent = refl;
      nine_value = refl;
      nine_order = refl;
      nine_total = refl;
      value_order = refl;
      value_total = refl;
      order_total = refl;
    }
