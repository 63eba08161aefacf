-- Laws of the slot calls' numbers: what a number 0 says, when a number is 0, and that those tested before the slot itself are
-- neither 8 nor 9.
use Rattle.std.specs.Prelude.{◌≡◌, refl, true, ◌&&◌, List, ℕ, eqb, leb, length}
use Rattle.std.proofs.Common.{arith}
use Rattle.lists.specs.ChoiceLaws.{pick_each, then_zero, then_both, not_refused}
use Rattle.refusal.specs.Numbers.{PLAN, DUMMY, FULL, LENGTH, TABLE, REGISTER, VALUE, ORDER, TOTAL}
use Rattle.dispersal.specs.Register.{register_ok, settings_ok}
use Rattle.parity_table.specs.Tables.{table_ok}
use Rattle.plan.specs.Records.{plan_in}
use Rattle.plan.specs.declared.FrameState.{FrameState}
use Rattle.plan.specs.Needs.{Rows}
use Rattle.plan.proofs.RateLaws.{rate_rows}
use Rattle.plan.specs.Plans.{rate_of}
use Rattle.plan.specs.Rates.{rate_ok, rows_of}
use Rattle.plan.specs.Sizes.{slot_octets, slot_width}
use Rattle.plan.proofs.PlanLaws.{accepted, group_values, plan_each}
use Rattle.plan.specs.Places.{group_at, carries}
use Rattle.plan.proofs.PlaceLaws.{group_holds}
use Rattle.plan.specs.States.{sound_number, state_number}
use Rattle.plan.specs.Needs.{Ready}
use Rattle.plan.proofs.StateLaws.{ready, ready_yes}
use Rattle.codeword.proofs.CallLaws.{Lent, lent, lent_yes, lent_earlier}
use Rattle.codeword.proofs.AnswerLaws.{Earlier, earlier, earlier_then, earlier_test}
use Rattle.slot.specs.Slots.{source_octets, slot_shape}
use Rattle.slot.specs.Calls.{rows_at, data_number, slot_number, form_number}

-- a state at a data slot
pub record AtData (s : FrameState) : Type 0 where
  pub ready : Ready s
  pub carries : carries (plan_in s) s.slot ≡ true
  pub rows : Rows (rows_at s)

-- the rate at a place is a known one
pub rows_known : (s : FrameState) → Ready s → Rows (rows_at s)
unfolding rows_at
rows_known s r =
    let p = plan_in s in
    let a = accepted p r.sound.plan in
    let h = group_holds p s.slot a r.sound.numbered r.left in
    rate_rows (rate_of p (group_at p s.slot)) (group_values p (group_at p s.slot) a h.group).rate

pub at_data : (s : FrameState) → data_number s ≡ 0 → AtData s
unfolding data_number
at_data s h =
    let a = then_zero (state_number s) _ h in
    let r = ready s a.0 in
    record { ready = r; carries = not_refused (carries (plan_in s) s.slot) DUMMY (omega arith) a.1; rows = rows_known s r }

pub data_yes : (s : FrameState) → Ready s → carries (plan_in s) s.slot ≡ true → data_number s ≡ 0
unfolding data_number
data_yes s r c = rw (ready_yes s r, c)

-- all that the work on a slot may assume
pub record Accepted-slot (s : FrameState) (t source coded : List ℕ) : Type 0 where
  pub place : AtData s
  pub areas : Lent (slot_shape (rows_at s)) (source_octets (rows_at s)) t source coded

pub accepted_slot : (s : FrameState) (t source coded : List ℕ) → slot_number s t source coded ≡ 0 → Accepted-slot s t source coded
unfolding slot_number
accepted_slot s t source coded h =
    let a = then_zero (data_number s) _ h in
    record { place = at_data s a.0; areas = lent (slot_shape (rows_at s)) (source_octets (rows_at s)) t source coded a.1 }

-- a call that has all of it has number 0
pub slot_yes : (s : FrameState) (t source coded : List ℕ) → Accepted-slot s t source coded → slot_number s t source coded ≡ 0
unfolding slot_number
slot_yes s t source coded a =
    then_both (data_number s) _ (data_yes s a.place.ready a.place.carries) (lent_yes (slot_shape (rows_at s)) (source_octets (rows_at s)) t source coded a.areas)

-- the numbers tested before the slot itself is read are neither 8 nor 9
pub state_earlier : (s : FrameState) → Earlier (state_number s)
unfolding state_number sound_number
state_earlier s =
    earlier_then
    (earlier_then (pick_each Earlier (eqb s.slot 0) (earlier PLAN refl) (earlier 0 refl))
    (earlier_then (plan_each Earlier (earlier 0 refl) (earlier PLAN refl) (earlier VALUE refl) (earlier ORDER refl) (earlier TOTAL refl) (plan_in s))
    (earlier_test (settings_ok slot_width s.mask s.start && register_ok slot_width s.register) REGISTER refl)))
    (earlier_test (leb s.slot 120) FULL refl)

pub data_earlier : (s : FrameState) → Earlier (data_number s)
unfolding data_number
data_earlier s = earlier_then (state_earlier s) (earlier_test (carries (plan_in s) s.slot) DUMMY refl)

pub slot_earlier : (s : FrameState) (t source coded : List ℕ) → Earlier (slot_number s t source coded)
unfolding slot_number
slot_earlier s t source coded = earlier_then (data_earlier s) (lent_earlier (slot_shape (rows_at s)) (source_octets (rows_at s)) t source coded)

pub form_earlier : (rate : ℕ) (t coded : List ℕ) → Earlier (form_number rate t coded)
unfolding form_number
form_earlier rate t coded =
    earlier_then (earlier_test (rate_ok rate) PLAN refl)
    (earlier_then (earlier_test (eqb (length coded) slot_octets) LENGTH refl)
    (earlier_test (table_ok (rows_of rate) t) TABLE refl))
