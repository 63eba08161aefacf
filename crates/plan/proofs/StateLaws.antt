-- Laws of states: what a number 0 says, and that a state handed back with 0 is sound for the next call.
use Rattle.std.specs.Prelude.{◌≡◌, refl, true, false, ◌&&◌, ℕ, zero, suc, ◌≤◌, eqb, leb, Result, Ok, Err, IsOk}
use Rattle.std.proofs.Common.{arith, rules, le-leb, leb-true, eq-eqb, ne_eqb}
use Rattle.std.proofs.lemmas.Bool.{eqb-false}
use Rattle.lists.specs.Choice.{pick}
use Rattle.lists.specs.ChoiceLaws.{and_left, and_right, then_zero, not_refused, no_cause}
use Rattle.refusal.specs.AnswerLaws.{refused_some}
use Rattle.refusal.specs.declared.Refusal.{Refusal}
use Rattle.refusal.specs.Numbers.{PLAN, DUMMY, FULL, REGISTER}
use Rattle.dispersal.specs.Register.{mask_ok, register_ok, settings_ok}
use Rattle.plan.specs.declared.Plan.{Plan}
use Rattle.plan.specs.declared.FrameState.{FrameState}
use Rattle.plan.specs.Sizes.{slot_width}
use Rattle.plan.specs.Records.{plan_in}
use Rattle.plan.specs.Plans.{plan_number}
use Rattle.plan.specs.Places.{carries}
use Rattle.plan.specs.States.{as_answer, begun, moved_on, open_number, opened, sound_number, state_number, pass_number, passed}
use Rattle.plan.specs.Needs.{Sound, Ready}

positive : (n : ℕ) → (n ≡ 0 → ⊥) → 1 ≤ n
positive zero h = absurd (h refl)
positive (suc n) h = omega arith

pub sound : (s : FrameState) → sound_number s ≡ 0 → Sound s
unfolding sound_number
sound s h =
    let a = then_zero (pick (eqb s.slot 0) PLAN 0) _ h in
    let b = then_zero (plan_number (plan_in s)) _ a.1 in
    let t = not_refused (settings_ok slot_width s.mask s.start && register_ok slot_width s.register) REGISTER (omega arith) b.1 in
    let u = and_left (settings_ok slot_width s.mask s.start) _ t in
    record {
      numbered = positive s.slot (eqb-false s.slot 0 (no_cause (eqb s.slot 0) PLAN (omega arith) a.0));
      plan = b.0;
      mask = and_left (mask_ok slot_width s.mask) _ u;
      start = and_right (mask_ok slot_width s.mask) _ u;
      register = and_right (settings_ok slot_width s.mask s.start) _ t;
    }

pub sound_yes : (s : FrameState) → Sound s → sound_number s ≡ 0
unfolding sound_number
sound_yes s h =
    rw (ne_eqb s.slot 0 (λ e. omega (arith, h.numbered)), h.plan, h.mask, h.start, h.register)

pub ready : (s : FrameState) → state_number s ≡ 0 → Ready s
unfolding state_number
ready s h =
    let a = then_zero (sound_number s) _ h in
    record { sound = sound s a.0; left = leb-true s.slot 120 (not_refused (leb s.slot 120) FULL (omega arith) a.1) }

pub ready_yes : (s : FrameState) → Ready s → state_number s ≡ 0
unfolding state_number
ready_yes s r = rw (sound_yes s r.sound, le-leb s.slot 120 r.left)

-- what a pass with number 0 had
pub pass_ready : (s : FrameState) → pass_number s ≡ 0 → Ready s × (carries (plan_in s) s.slot ≡ false)
unfolding pass_number
pass_ready s h =
    let a = then_zero (state_number s) _ h in
    (ready s a.0, no_cause (carries (plan_in s) s.slot) DUMMY (omega arith) a.1)

-- such a pass has number 0
pub pass_yes : (s : FrameState) → Ready s → carries (plan_in s) s.slot ≡ false → pass_number s ≡ 0
unfolding pass_number
pass_yes s r c = rw (ready_yes s r, c)

-- what an opening with number 0 had
pub open_sound : (p : Plan) (mask start : ℕ) → open_number p mask start ≡ 0 → Sound (begun p mask start)
unfolding open_number
open_sound p mask start h =
    let a = then_zero (plan_number p) _ h in
    let t = not_refused (settings_ok slot_width mask start) REGISTER (omega arith) a.1 in
    let u = and_right (mask_ok slot_width mask) _ t in
    record { numbered = omega arith; plan = a.0; mask = and_left (mask_ok slot_width mask) _ t; start = u; register = u }

-- one slot on, with a register that is accepted, a sound state stays sound
pub moved_sound : (s : FrameState) (r : ℕ) → Sound s → register_ok slot_width r ≡ true → Sound (moved_on s r)
moved_sound s r h k = record { numbered = omega arith; plan = h.plan; mask = h.mask; start = h.start; register = k }

-- a state that opening hands back with 0 is never refused for its plan or its register by the next call
pub opened_next : (p : Plan) (mask start : ℕ) → (opened p mask start).number ≡ 0 → sound_number (opened p mask start).state ≡ 0
unfolding opened
opened_next p mask start h = rw (eq-eqb (open_number p mask start) 0 h) (sound_yes (begun p mask start) (open_sound p mask start h))

-- nor is one that a pass hands back with 0
pub passed_next : (s : FrameState) → (passed s).number ≡ 0 → sound_number (passed s).state ≡ 0
unfolding passed
passed_next s h =
    let r = (pass_ready s h).0.sound in
    rw (eq-eqb (pass_number s) 0 h) (sound_yes (moved_on s s.register) (moved_sound s s.register r r.register))

-- a call whose number is 0 answers a state
pub answers_state : (s : FrameState) (r : Result FrameState Refusal) → (as_answer s r).number ≡ 0 → IsOk r
answers_state s (Ok x) h = search rules
answers_state s (Err r) h = absurd (refused_some r h)
