-- Laws of one slot of a frame: a data slot, a dummy, and the lengths of what is put.
use Rattle.std.specs.Prelude.{◌≡◌, refl, Bool, List, ℕ, eqb}
use Rattle.std.proofs.Common.{ap, ◌∙◌}
use Rattle.std.proofs.Math.Bool.{true, false}
use Rattle.std.proofs.Math.ListN.{length}
use Rattle.lists.specs.Choice.{pick}
use Rattle.refusal.specs.Numbers.{DUMMY}
use Rattle.plan.specs.Records.{plan_in}
use Rattle.plan.specs.declared.FrameState.{FrameState}
use Rattle.plan.specs.Sizes.{slot_octets}
use Rattle.plan.specs.Places.{carries}
use Rattle.plan.specs.States.{moved_on}
use Rattle.codeword.specs.Reading.{no_position}
use Rattle.slot.specs.Slots.{source_octets, slot_of}
use Rattle.slot.proofs.SlotLaws.{length_slot_of}
use Rattle.slot.specs.Reading.{received_number, no_stuff, source_of}
use Rattle.slot.proofs.ReadingLaws.{source_of_source}
use Rattle.slot.specs.Calls.{rows_at, next_state}
use Rattle.frame.specs.Steps.{table_at, coded_at, answer_at, stuff_at, position_at, read_at, state_after}

module _ (s : FrameState) (ts : List ℕ) where
  -- a data slot
  module _ (c : carries (plan_in s) s.slot ≡ true) where
    pub coded_data : (source found : List ℕ) → coded_at s ts source found ≡ slot_of (rows_at s) (table_at s ts) s.mask s.register source
    unfolding coded_at
    coded_data source found = rw c

    pub answer_data : (received : List ℕ) → answer_at s ts received ≡ received_number (rows_at s) (table_at s ts) s.mask s.register received
    unfolding answer_at
    answer_data received = rw c

    pub after_data : state_after s ≡ next_state s
    unfolding state_after
    after_data = rw c

  -- a dummy
  module _ (c : carries (plan_in s) s.slot ≡ false) where
    pub coded_dummy : (source found : List ℕ) → coded_at s ts source found ≡ found
    unfolding coded_at
    coded_dummy source found = rw c

    pub answer_dummy : (received : List ℕ) → answer_at s ts received ≡ DUMMY
    unfolding answer_at
    answer_dummy received = rw c

    pub stuff_dummy : (received : List ℕ) → stuff_at s ts received ≡ no_stuff
    unfolding stuff_at
    stuff_dummy received = rw (answer_dummy received)

    pub position_dummy : (received : List ℕ) → position_at s ts received ≡ no_position
    unfolding position_at
    position_dummy received = rw (answer_dummy received)

    pub read_dummy : (received found : List ℕ) → read_at s ts received found ≡ found
    unfolding read_at
    read_dummy received found = rw (answer_dummy received)

    pub after_dummy : state_after s ≡ moved_on s s.register
    unfolding state_after
    after_dummy = rw c

  pub length_coded : (source found : List ℕ) → length found ≡ slot_octets → length (coded_at s ts source found) ≡ slot_octets
  unfolding coded_at
  length_coded source found l = go (carries (plan_in s) s.slot)
    where
      go : (b : Bool) → length (pick b (slot_of (rows_at s) (table_at s ts) s.mask s.register source) found) ≡ slot_octets
      go true = length_slot_of (rows_at s) (table_at s ts) s.mask s.register source
      go false = l

  length_read_data : (received found : List ℕ) → length found ≡ source_octets (rows_at s) → length (read_at s ts received found) ≡ source_octets (rows_at s)
  unfolding read_at
  length_read_data received found l = go (eqb (answer_at s ts received) 0)
    where
      go : (z : Bool) → length (pick z (source_of (rows_at s) s.mask s.register received) found) ≡ source_octets (rows_at s)
      go true = (source_of_source (rows_at s) s.mask s.register received).long
      go false = l

  pub length_read : (received found : List ℕ) → length found ≡ pick (carries (plan_in s) s.slot) (source_octets (rows_at s)) 0
      → length (read_at s ts received found) ≡ pick (carries (plan_in s) s.slot) (source_octets (rows_at s)) 0
  length_read received found l = go (carries (plan_in s) s.slot) refl
    where
      go : (b : Bool) → carries (plan_in s) s.slot ≡ b → length (read_at s ts received found) ≡ pick (carries (plan_in s) s.slot) (source_octets (rows_at s)) 0
      go true e = rw e (length_read_data received found (rw e at l))
      go false e = ap length (read_dummy e received found) ∙ l
