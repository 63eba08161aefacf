-- `slot::check_slot`: the rows at a data slot are those of a known rate.
use Rattle.std.proofs.Common.{◌≡◌, ℕ, sym}
use Rattle.plan.specs.Needs.{Rows}
use Rattle.plan.specs.declared.FrameState.{FrameState}
use Rattle.slot.specs.Calls.{rows_at, data_number}
use Rattle.slot.proofs.SlotLaws.{fits}
use Rattle.slot.proofs.CallLaws.{at_data}
use Rattle.slot.proofs.calls.check_slot.Goals as goal

known : (s : FrameState) (rows : ℕ) → rows ≡ rows_at s → 0 ≡ data_number s → Rows rows
known s rows e z = rw e (at_data s (sym z)).rows

pub shape-requires : goal.shape-requires
shape-requires c = known c.args.state _ c.in_ok-rows.ensures.rows c.in_ok-rows.ensures.refused

pub source_octets-requires : goal.source_octets-requires
source_octets-requires c = known c.args.state _ c.in_ok-rows.ensures.rows c.in_ok-rows.ensures.refused

pub check_lent-requires : goal.check_lent-requires
check_lent-requires c =
    let r = known c.args.state _ c.in_ok-rows.ensures.rows c.in_ok-rows.ensures.refused in
    rw c.shape.ensures (fits c.in_ok-rows.rows r)
