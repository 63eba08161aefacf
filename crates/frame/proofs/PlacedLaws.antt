-- Laws of one slot's place in a frame: its group's table, and that the call on the slot is refused for nothing.
use Rattle.std.specs.Prelude.{◌≡◌, true, List, ℕ, ◌+◌, ◌<◌, ◌≤◌, length, get_or}
use Rattle.std.proofs.Math.Path.{ap₂}
use Rattle.std.proofs.Common.{◌∙◌, arith}
use Rattle.lists.specs.Parts.{part}
use Rattle.parity_table.specs.Tables.{table_ok}
use Rattle.plan.specs.Records.{plan_in}
use Rattle.plan.specs.declared.Plan.{Plan}
use Rattle.plan.specs.declared.FrameState.{FrameState}
use Rattle.plan.specs.Sizes.{slot_octets}
use Rattle.plan.proofs.PlanLaws.{accepted}
use Rattle.plan.specs.Places.{group_at, carries}
use Rattle.plan.proofs.PlaceLaws.{Holds, group_holds}
use Rattle.slot.specs.Calls.{rows_at, slot_number}
use Rattle.slot.proofs.CallLaws.{rows_known, slot_yes}
use Rattle.frame.specs.Tables.{table_from, table_of}
use Rattle.frame.proofs.TableLaws.{table_from_more, table_from_within, table_ok_law}
use Rattle.frame.specs.Steps.{table_at}
use Rattle.frame.specs.Frames.{state_before, octets_of_slot, source_in}
use Rattle.frame.proofs.FrameLaws.{state_ready, length_source_in}
use Rattle.frame.specs.Needs.{Placed, Framed}

-- the table of group g lies between two ends, and is the slot's
pub record Between (s : FrameState) (ts ends : List ℕ) (g : ℕ) : Type 0 where
  pub few : g + 1 < length ends
  pub ends_nine : length ends ≡ 9
  pub begins : get_or ends g 0 ≤ get_or ends (g + 1) 0
  pub within : get_or ends (g + 1) 0 ≤ length ts
  pub is : part (get_or ends g 0) (get_or ends (g + 1) 0) ts ≡ table_at s ts

-- every slot of a frame has its place
pub placed_at : (p : Plan) (mask start : ℕ) (ts ends source frame : List ℕ) → Framed p mask start ts ends source frame → (k : ℕ) → k < 120
    → Placed (state_before p mask start k) ts ends (source_in p source k)
placed_at p mask start ts ends source frame q k h =
    record {
      ready = state_ready p mask start q.lent.opened k h;
      tables = q.lent.tables;
      ends_long = q.ends_long;
      ends_are = q.ends_are;
      source_long = length_source_in p source q.lent.source_long k h;
    }

module _ (s : FrameState) (ts ends source : List ℕ) (q : Placed s ts ends source) where
  -- the group of the slot
  abbrev group : ℕ
  group = group_at (plan_in s) s.slot

  held : Holds (plan_in s) group s.slot
  held = group_holds (plan_in s) s.slot (accepted (plan_in s) q.ready.sound.plan) q.ready.sound.numbered q.ready.left

  -- it is one of at most eight
  group_few : group + 1 < length ends
  group_few = omega (arith, held.group, (accepted (plan_in s) q.ready.sound.plan).high, q.ends_long)

  -- its table lies between two ends
  first_end : get_or ends group 0 ≡ table_from (plan_in s) ts group
  first_end = q.ends_are group (omega (arith, held.group))

  last_end : get_or ends (group + 1) 0 ≡ table_from (plan_in s) ts (group + 1)
  last_end = q.ends_are (group + 1) (omega (arith, held.group))

  table_begins : get_or ends group 0 ≤ get_or ends (group + 1) 0
  table_begins = omega (arith, first_end, last_end, table_from_more (plan_in s) ts group)

  table_ends : get_or ends (group + 1) 0 ≤ length ts
  table_ends = omega (arith, last_end, table_from_within (plan_in s) ts (group + 1))

  table_between : part (get_or ends group 0) (get_or ends (group + 1) 0) ts ≡ table_at s ts
  unfolding table_at table_of
  table_between = ap₂ (λ (a e : ℕ). part a e ts) first_end last_end

  -- for the group g that the code found
  pub between : (g : ℕ) → g ≡ group → Between s ts ends g
  between g e = rw e (record { few = group_few; ends_nine = q.ends_long; begins = table_begins; within = table_ends; is = table_between })

  table_accepted : table_ok (rows_at s) (table_at s ts) ≡ true
  unfolding table_at rows_at
  table_accepted = table_ok_law (plan_in s) ts q.tables group held.group

  -- a data slot of the right lengths is coded or read
  pub slot_taken : (coded : List ℕ) → length coded ≡ slot_octets → carries (plan_in s) s.slot ≡ true → slot_number s (table_at s ts) source coded ≡ 0
  unfolding octets_of_slot rows_at
  slot_taken coded l c =
      slot_yes s (table_at s ts) source coded
      (record {
        place = record { ready = q.ready; carries = c; rows = rows_known s q.ready };
        areas = record { source_long = q.source_long ∙ rw c; coded_long = l; table = table_accepted };
      })
