-- `slot_reader::reader::read_slot`: refused as the slot call is, or the received slot's stuff bits and octets.
use mathlib.Core.Path.{◌≡◌, refl, sym, ap, subst, ◌∙◌}
use Prim.Native.Nat.{ℕ}
use lib.ListN.{length-replicate}
use Rattle.dispersal.specs.RegisterLaws.{register_is}
use Rattle.refusal.specs.Answers.{number, number_of}
use Rattle.refusal.specs.AnswerLaws.{refused_some}
use Rattle.codeword.specs.Reading.{position}
use Rattle.codeword.proofs.AnswerLaws.{Earlier, earlier_told}
use Rattle.plan.specs.Sizes.{slot_width}
use Rattle.plan.specs.States.{moved_on}
use Rattle.slot.specs.Slots.{source_octets}
use Rattle.slot.specs.Reading.{stuff_of}
use Rattle.slot.specs.Calls.{slot_number}
use Rattle.slot.proofs.CallLaws.{accepted_slot, slot_earlier}
use Rattle.slot_reader.specs.Needs.{ReadOf}
use Rattle.slot_reader.specs.ReadLaws.{answer≡, read_answer_refused, read_area_refused, read_answer_looked, read_area_looked}
use Rattle.slot_reader.proofs.reader.read_slot.Goals as goal

pub returns-in-Err : goal.returns-in-Err
returns-in-Err c =
    let a = c.args in
    let s = a.state in
    let r = c.in-Err.refused in
    let n : number_of r ≡ slot_number s a.table.now a.source.now a.coded.now = c.in-Err.ensures.refused in
    let h : slot_number s a.table.now a.source.now a.coded.now ≡ 0 → ⊥ = λ z. refused_some r (n ∙ z) in
    let p = earlier_told r (subst Earlier (sym n) (slot_earlier s a.table.now a.source.now a.coded.now)) in
    record {
      value = answer≡ n refl refl p ∙ sym (read_answer_refused s a.table.now a.coded.now a.source.now h);
      source_after = sym (read_area_refused s a.table.now a.coded.now a.source.now h);
    }

pub read-found-requires : goal.read-found-requires
read-found-requires c =
    let a = c.args in
    let r = accepted_slot _ _ _ _ (sym c.in-Ok.ensures.refused) in
    let e = c.in-Ok.ensures.rows in
    record {
      word = record {
        checked = record {
          rate = rw e r.place.rows;
          table = rw e r.areas.table;
          whole = r.areas.coded_long;
          bits_long = length-replicate {A = ℕ} 44880 0;
          input_long = length-replicate {A = ℕ} 44880 0;
          sums_long = length-replicate {A = ℕ} 29546 0;
        };
        held = (register_is slot_width a.state.register r.place.ready.sound.register).high;
      };
      long = r.areas.source_long ∙ ap source_octets (sym e);
    }

pub advanced-next-requires : goal.advanced-next-requires
advanced-next-requires c = (accepted_slot _ _ _ _ (sym c.in-Ok.ensures.refused)).place.ready.left

pub returns : goal.returns
returns c =
    let a = c.args in
    let s = a.state in
    let p = sym c.in-Ok.ensures.refused in
    let f = c.read-found in
    let o = subst (λ (R : ℕ). ReadOf R a.table.now s.mask s.register a.coded.now a.source.now (number f.result.stuff) f.result.register (stuff_of f.result.stuff) (position f.result.stuff) f.new.source) c.in-Ok.ensures.rows f.ensures in
    record {
      value = answer≡ o.number (c.advanced-next.ensures ∙ ap (moved_on s) o.register) o.stuff o.position ∙ sym (read_answer_looked s a.table.now a.coded.now a.source.now p);
      source_after = o.area ∙ sym (read_area_looked s a.table.now a.coded.now a.source.now p);
    }
