-- `frame_coder::code_place`: the place's kind decides between the slot call, with the table of the place's group, and a pass.
use mathlib.Core.Path.{◌≡◌, sym, ap, ◌∙◌}
use mathlib.Core.Bool.{true, false}
use mathlib.Core.List.{List}
use Prim.Native.Nat.{ℕ, ◌+◌}
use lib.ListN.{get_or}
use Rattle.lists.specs.Parts.{part}
use Rattle.plan.specs.Records.{plan_in}
use Rattle.plan.specs.declared.FrameState.{FrameState}
use Rattle.plan.specs.declared.Answer.{Answer}
use Rattle.plan.specs.Places.{carries, place_of}
use Rattle.plan.proofs.StateLaws.{ready_yes, answers_state}
use Rattle.slot.specs.Calls.{code_answer, code_area}
use Rattle.frame.specs.Steps.{coded_at, state_after}
use Rattle.frame.proofs.StepLaws.{coded_dummy}
use Rattle.frame.proofs.PlacedLaws.{Between, between, slot_taken}
use Rattle.frame.proofs.SlotBySlot.{code_answer_law, code_area_law, pass_answer}
use Rattle.frame_coder.specs.Needs.{Coding}
use Rattle.frame_coder.proofs.code.code_place.Goals as goal

-- the slot call with the table of the place's group
module _ {s : FrameState} {ts ends source coded : List ℕ} (q : Coding s ts ends source coded) {g : ℕ} (b : Between s ts ends g) (c : carries (plan_in s) s.slot ≡ true) where
  abbrev table : List ℕ
  table = part (get_or ends g 0) (get_or ends (g + 1) 0) ts

  called : {r : Answer} → r ≡ code_answer s table source coded → (r.number ≡ 0) × (r.state ≡ state_after s)
  called h =
      let w = code_answer_law s ts source coded (slot_taken s ts ends source q.placed coded q.coded_long c) c in
      let t = h ∙ ap (λ (u : List ℕ). code_answer s u source coded) b.is in
      (ap (λ a. a.number) t ∙ w.0, ap (λ a. a.state) t ∙ w.1)

  filled : {left : List ℕ} → left ≡ code_area s table source coded → left ≡ coded_at s ts source coded
  filled k =
      k ∙ ap (λ (u : List ℕ). code_area s u source coded) b.is ∙ code_area_law s ts source coded (slot_taken s ts ends source q.placed coded q.coded_long c) c

pub next_place-place-requires : goal.next_place-place-requires
next_place-place-requires c = ready_yes _ c.requires.placed.ready

pub table_of-table-requires : goal.table_of-table-requires
unfolding place_of
table_of-table-requires c =
    let a = c.args in
    let b = between a.state a.tables.now a.ends.now a.source.now c.requires.placed _ (ap (λ r. r.group) c.next_place-place.ensures) in
    record { few = b.few; begins = b.begins; ended = b.within }

pub unwrap-requires : goal.unwrap-requires
unfolding place_of
unwrap-requires c =
    let a = c.args in
    let b = between a.state a.tables.now a.ends.now a.source.now c.requires.placed _ (ap (λ r. r.group) c.next_place-place.ensures) in
    let k : carries (plan_in a.state) a.state.slot ≡ true = sym (ap (λ r. r.carries) c.next_place-place.ensures) ∙ c.if-place.true in
    answers_state a.state _ (called c.requires b k (rw c.table_of-table.ensures at c.code_slot.ensures.value)).0

pub returns-then-place : goal.returns-then-place
unfolding place_of
returns-then-place c =
    let a = c.args in
    let b = between a.state a.tables.now a.ends.now a.source.now c.requires.placed _ (ap (λ r. r.group) c.next_place-place.ensures) in
    let k : carries (plan_in a.state) a.state.slot ≡ true = sym (ap (λ r. r.carries) c.next_place-place.ensures) ∙ c.if-place.true in
    let v = rw (c.unwrap.ensures, c.table_of-table.ensures) at c.code_slot.ensures.value in
    record {
      value = (called c.requires b k v).1;
      coded_after = filled c.requires b k (rw c.table_of-table.ensures at c.code_slot.ensures.coded_after);
    }

pub unwrap-requires-2 : goal.unwrap-requires-2
unfolding place_of
unwrap-requires-2 c =
    let s = c.args.state in
    let k : carries (plan_in s) s.slot ≡ false = sym (ap (λ r. r.carries) c.next_place-place.ensures) ∙ c.if-place.false in
    answers_state s _ (ap (λ r. r.number) c.pass.ensures ∙ (pass_answer s c.args.tables.now c.requires.placed.ready k).0)

pub returns : goal.returns
unfolding place_of
returns c =
    let a = c.args in
    let s = a.state in
    let k : carries (plan_in s) s.slot ≡ false = sym (ap (λ r. r.carries) c.next_place-place.ensures) ∙ c.if-place.false in
    record {
      value = ap (λ r. r.state) (rw c.unwrap-2.ensures at c.pass.ensures) ∙ (pass_answer s a.tables.now c.requires.placed.ready k).1;
      coded_after = sym (coded_dummy s a.tables.now k a.source.now a.coded.now);
    }
