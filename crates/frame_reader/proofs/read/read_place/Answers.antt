-- `frame_reader::read::read_place`: a data slot is read with its group's table, a dummy is passed.
use mathlib.Core.Path.{◌≡◌, sym, ap, ◌∙◌}
use mathlib.Core.Bool.{true, false}
use mathlib.Core.List.{List}
use Prim.Native.Nat.{ℕ}
use Rattle.plan.specs.Records.{plan_in}
use Rattle.plan.specs.Places.{carries, place_of}
use Rattle.plan.proofs.StateLaws.{ready_yes, answers_state}
use Rattle.slot.specs.Calls.{read_answer, read_area}
use Rattle.frame.proofs.StepLaws.{answer_dummy, stuff_dummy, position_dummy, read_dummy}
use Rattle.frame.proofs.PlacedLaws.{between, slot_taken}
use Rattle.frame.proofs.SlotBySlot.{read_answer_law, read_area_law, pass_answer}
use Rattle.frame_reader.proofs.read.read_place.Goals as goal

pub next_place-place-requires : goal.next_place-place-requires
next_place-place-requires c = ready_yes _ c.requires.placed.ready

pub table_of-table-requires : goal.table_of-table-requires
unfolding place_of
table_of-table-requires c =
    let a = c.args in
    let b = between a.state a.tables.now a.ends.now a.source.now c.requires.placed _ (ap (λ r. r.group) c.next_place-place.ensures) in
    record { few = b.few; begins = b.begins; ended = b.within }

pub returns-then-place : goal.returns-then-place
unfolding place_of
returns-then-place c =
    let a = c.args in
    let s = a.state in
    let b = between s a.tables.now a.ends.now a.source.now c.requires.placed _ (ap (λ r. r.group) c.next_place-place.ensures) in
    let k : carries (plan_in s) s.slot ≡ true = sym (ap (λ r. r.carries) c.next_place-place.ensures) ∙ c.if-place.true in
    let i = c.table_of-table.ensures ∙ b.is in
    let z = slot_taken s a.tables.now a.ends.now a.source.now c.requires.placed a.received.now c.requires.received_long k in
    let e = c.from.ensures ∙ c.read_slot.ensures.value ∙ ap (λ (u : List ℕ). read_answer s u a.received.now a.source.now) i in
    let w = read_answer_law s a.tables.now a.source.now a.received.now z k in
    record {
      number_value = (ap (λ q. q.number) e ∙ w.0, ap (λ q. q.state) e ∙ w.1, ap (λ q. q.stuff) e ∙ w.2, ap (λ q. q.position) e ∙ w.3);
      source_after = c.read_slot.ensures.source_after ∙ ap (λ (u : List ℕ). read_area s u a.received.now a.source.now) i ∙ read_area_law s a.tables.now a.source.now a.received.now z k;
    }

pub unwrap-requires : goal.unwrap-requires
unfolding place_of
unwrap-requires c =
    let s = c.args.state in
    let k : carries (plan_in s) s.slot ≡ false = sym (ap (λ r. r.carries) c.next_place-place.ensures) ∙ c.if-place.false in
    answers_state s _ (ap (λ r. r.number) c.pass.ensures ∙ (pass_answer s c.args.tables.now c.requires.placed.ready k).0)

pub returns : goal.returns
unfolding place_of
returns c =
    let a = c.args in
    let s = a.state in
    let k : carries (plan_in s) s.slot ≡ false = sym (ap (λ r. r.carries) c.next_place-place.ensures) ∙ c.if-place.false in
    let d = c.from-2.ensures in
    let p = rw c.unwrap.ensures at c.pass.ensures in
    record {
      number_value = (
        ap (λ q. q.number) d ∙ sym (answer_dummy s a.tables.now k a.received.now),
        ap (λ q. q.state) d ∙ ap (λ q. q.state) p ∙ (pass_answer s a.tables.now c.requires.placed.ready k).1,
        ap (λ q. q.stuff) d ∙ sym (stuff_dummy s a.tables.now k a.received.now),
        ap (λ q. q.position) d ∙ sym (position_dummy s a.tables.now k a.received.now),
      );
      source_after = sym (read_dummy s a.tables.now k a.received.now a.source.now);
    }
