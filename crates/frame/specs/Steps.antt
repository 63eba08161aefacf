-- One slot of a whole frame (document 01, "Plan and place"), at the state before it: coded or read, or passed where it is a
-- dummy.
use Rattle.std.specs.Prelude.{List, ℕ, eqb}
use Rattle.lists.specs.Choice.{pick}
use Rattle.refusal.specs.Numbers.{DUMMY}
use Rattle.plan.specs.Records.{plan_in}
use Rattle.plan.specs.declared.FrameState.{FrameState}
use Rattle.plan.specs.Places.{group_at, carries}
use Rattle.plan.specs.States.{moved_on}
use Rattle.codeword.specs.Reading.{position_with}
use Rattle.slot.specs.Slots.{slot_of}
use Rattle.slot.specs.Reading.{received_number, stuff_in, stuff_with, source_of, failing_in}
use Rattle.slot.specs.Calls.{rows_at, next_state}
use Rattle.frame.specs.Tables.{table_of}

-- the slot's group's parity table
unfoldable pub table_at : FrameState → List ℕ → List ℕ
table_at s ts = table_of (plan_in s) ts (group_at (plan_in s) s.slot)

-- its 5,610 octets, coded from its header and data octets; "The dummies' parts are left as found"
unfoldable pub coded_at : FrameState → List ℕ → List ℕ → List ℕ → List ℕ
coded_at s ts source found = pick (carries (plan_in s) s.slot) (slot_of (rows_at s) (table_at s ts) s.mask s.register source) found

-- its answer octet: "0, 2 for a dummy, or 8, 9"
unfoldable pub answer_at : FrameState → List ℕ → List ℕ → ℕ
answer_at s ts received = pick (carries (plan_in s) s.slot) (received_number (rows_at s) (table_at s ts) s.mask s.register received) DUMMY

-- its stuff bits, "255 where the slot's answer isn't 0" (document 02, N5)
unfoldable pub stuff_at : FrameState → List ℕ → List ℕ → ℕ
stuff_at s ts received = stuff_with (answer_at s ts received) (stuff_in (rows_at s) s.mask s.register received)

-- its lowest failing parity position, "65535 where the slot's answer isn't 8" (document 02, N7)
unfoldable pub position_at : FrameState → List ℕ → List ℕ → ℕ
position_at s ts received = position_with (answer_at s ts received) (failing_in (rows_at s) (table_at s ts) received)

-- its header and data octets as read; with 8 or 9 they "stay untouched", and a dummy has none
unfoldable pub read_at : FrameState → List ℕ → List ℕ → List ℕ → List ℕ
read_at s ts received found = pick (eqb (answer_at s ts received) 0) (source_of (rows_at s) s.mask s.register received) found

-- the state after it: "Coding or reading a data slot, or passing a dummy, moves on by one"
unfoldable pub state_after : FrameState → FrameState
state_after s = pick (carries (plan_in s) s.slot) (next_state s) (moved_on s s.register)
