-- `slot_coder::code_slot`: what the tests of the call leave is all that the work on a slot may assume.
use Rattle.std.proofs.Common.{◌≡◌, ℕ, sym, ap, ◌∙◌}
use lib.ListN.{length-replicate}
use Rattle.dispersal.specs.RegisterLaws.{register_is}
use Rattle.plan.specs.States.{moved_on}
use Rattle.slot.specs.Slots.{slot_of, register_after}
use Rattle.slot.specs.Calls.{rows_at, slot_number, code_answer, code_area}
use Rattle.slot.proofs.CallLaws.{accepted_slot}
use Rattle.slot_coder.proofs.code.code_slot.Goals as goal

pub put_slot-register-requires : goal.put_slot-register-requires
put_slot-register-requires c =
    let g = accepted_slot _ _ _ _ (sym c.in_ok-rows.ensures.refused) in
    let e = c.in_ok-rows.ensures.rows in
    record {
      rows = rw e g.place.rows;
      held = (register_is 25 _ g.place.ready.sound.register).high;
      table = rw e g.areas.table;
      source_long = rw e g.areas.source_long;
      bits_long = length-replicate {A = ℕ} 44880 0;
      input_long = length-replicate {A = ℕ} 44880 0;
      coded_long = g.areas.coded_long;
    }

pub advanced-requires : goal.advanced-requires
advanced-requires c = (accepted_slot _ _ _ _ (sym c.in_ok-rows.ensures.refused)).place.ready.left

pub returns : goal.returns
unfolding code_answer code_area
returns c =
    let a = c.args in
    let s = a.state in
    let e = c.in_ok-rows.ensures.rows in
    let z : slot_number s a.table.now a.source.now a.coded.now ≡ 0 = sym c.in_ok-rows.ensures.refused in
    let on : c.advanced.result ≡ moved_on s c.put_slot-register.result = c.advanced.ensures in
    let k : c.put_slot-register.result ≡ register_after (rows_at s) s.mask s.register = c.put_slot-register.ensures.value ∙ ap (λ (m : ℕ). register_after m s.mask s.register) e in
    record {
      value = rw (z, on, k);
      coded_after = rw z (c.put_slot-register.ensures.coded_after ∙ ap (λ (m : ℕ). slot_of m a.table.now s.mask s.register a.source.now) e);
    }
