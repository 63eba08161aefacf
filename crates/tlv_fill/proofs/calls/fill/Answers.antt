-- `tlv_fill::calls::fill`: an accepted call leaves the slots, their reports and both counts.
use mathlib.Core.Path.{sym, ap, ◌∙◌}
use Prim.Native.Nat.{ℕ}
use native.Mathlib.Omega.{arith}
use lib.ListN.{length}
use Rattle.plan.specs.Rates.{data_octets_of}
use Rattle.tlv.specs.CallLaws.{fill_ready}
use Rattle.tlv.specs.Calls.{fill_answer, fill_begins}
use Rattle.tlv.specs.Fill.{reports, taken_after, owed_after}
use Rattle.tlv_fill.proofs.calls.fill.Goals as goal

pub overflow_sub-end : goal.overflow_sub-end
overflow_sub-end c =
    let a = c.args in
    let r = fill_ready a.rate a.packets.now a.taken a.owed a.slots.now a.begins.now (sym c.in_ok-check_fill.ensures) in
    omega (arith, r.few, r.lent.least, r.octets.low)

pub overflow_add-end : goal.overflow_add-end
overflow_add-end c =
    let a = c.args in
    let r = fill_ready a.rate a.packets.now a.taken a.owed a.slots.now a.begins.now (sym c.in_ok-check_fill.ensures) in
    omega (arith, r.within)

pub lay-requires : goal.lay-requires
lay-requires c =
    let a = c.args in
    let r = fill_ready a.rate a.packets.now a.taken a.owed a.slots.now a.begins.now (sym c.in_ok-check_fill.ensures) in
    record { within = r.within; few = r.few; room = omega (arith, r.few, r.lent.least, r.octets.low) }

pub mark_begins-requires : goal.mark_begins-requires
mark_begins-requires c =
    let a = c.args in
    let r = fill_ready a.rate a.packets.now a.taken a.owed a.slots.now a.begins.now (sym c.in_ok-check_fill.ensures) in
    let e = c.data_octets.ensures in
    record {
      right = r.right;
      low = omega (arith, e, r.octets.low);
      high = omega (arith, e, r.octets.high);
      within = r.within;
      few = r.few;
      room = rw (e, r.lent.reports, ← r.lent.whole) (omega arith);
    }

pub returns-clause-value : goal.returns-clause-value
unfolding taken_after owed_after fill_answer
returns-clause-value c = rw (sym c.in_ok-check_fill.ensures, c.min.ensures, c.lacking.ensures, c.saturating_sub.ensures)

pub returns-clause-begins_after : goal.returns-clause-begins_after
unfolding fill_begins
returns-clause-begins_after c =
    let a = c.args in
    let r = fill_ready a.rate a.packets.now a.taken a.owed a.slots.now a.begins.now (sym c.in_ok-check_fill.ensures) in
    rw (sym c.in_ok-check_fill.ensures)
    (c.mark_begins.ensures
    ∙ ap (λ (x : ℕ). reports x (length a.begins.now) a.packets.now a.taken a.owed) c.data_octets.ensures
    ∙ ap (λ (x : ℕ). reports (data_octets_of a.rate) x a.packets.now a.taken a.owed) r.lent.reports)
