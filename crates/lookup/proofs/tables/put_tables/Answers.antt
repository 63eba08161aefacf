-- `lookup::put_tables`: the area is filled with the groups' tables, one at a time.
use mathlib.Core.Path.{◌≡◌, sym, ap, ◌∙◌}
use mathlib.Core.List.{List}
use Prim.Native.Nat.{ℕ, ◌+◌, ◌<◌, ◌≤◌}
use native.Mathlib.Omega.{arith}
use borrow.Author.Rules.{rules}
use lib.ListN.{length}
use Rattle.lists.specs.FillingLaws.{filling_none, filling_all}
use Rattle.refusal.specs.AnswerLaws.{answers_value}
use Rattle.plan.proofs.PlanLaws.{accepted}
use Rattle.plan.specs.declared.Plan.{Plan}
use Rattle.plan.specs.Plans.{plan_number, rate_of}
use Rattle.published.specs.Published.{length_of}
use Rattle.lookup.proofs.LookupLaws.{table_start, start_none, start_more, start_all, start_within, table_taken, table_put}
use Rattle.lookup.proofs.tables.put_tables.Invariants.{Inv}
use Rattle.lookup.proofs.tables.put_tables.Goals as goal

-- the end of a group's table of n numbers lies within the area
within : (p : Plan) (found tables : List ℕ) (at g n : ℕ) → plan_number p ≡ 0 → g < p.count → Inv p found tables at g → n ≡ length_of (rate_of p g) → at + n ≤ length tables
within p found tables at g n h l i e =
    omega (arith, e, i.place, start_more p h g l, start_within p (g + 1) (omega arith), i.filling.long, i.filling.same)

pub loop-g-init : goal.loop-g-init
loop-g-init c =
    let p = c.args.plan in
    record { few = (accepted p c.requires.plan).high; place = sym (start_none p); filling = filling_none _ _ (sym c.requires.long) }

pub bounds-plan-g : goal.bounds-plan-g
bounds-plan-g c = let h = c.loop-g.invariant.few in omega arith

pub overflow_add-end : goal.overflow_add-end
overflow_add-end c =
    let l = c.loop-g in
    let h = within c.args.plan c.args.tables.now l.tables l.at l.g _ c.requires.plan (omega arith) l.invariant (c.table_length.ensures.value ∙ ap length_of c.from-rate.ensures) in
    search rules

pub slice_bounds-copy_table-end : goal.slice_bounds-copy_table-end
slice_bounds-copy_table-end c =
    let l = c.loop-g in
    within c.args.plan c.args.tables.now l.tables l.at l.g _ c.requires.plan (omega arith) l.invariant (c.table_length.ensures.value ∙ ap length_of c.from-rate.ensures)

pub unwrap-requires : goal.unwrap-requires
unwrap-requires c =
    let l = c.loop-g in
    let p = c.args.plan in
    let e = c.table_length.ensures.value ∙ ap length_of c.from-rate.ensures in
    let n = table_taken p c.requires.plan l.g (omega arith) l.at _ _ l.tables l.invariant.place (ap (λ (n : ℕ). l.at + n) e) l.invariant.filling in
    let a = rw c.from-rate.ensures at c.copy_table.ensures in
    answers_value _ (a.number ∙ n)

pub loop-g-preserved : goal.loop-g-preserved
loop-g-preserved c =
    let l = c.loop-g in
    let p = c.args.plan in
    let q = c.requires.plan in
    let e = c.table_length.ensures.value ∙ ap length_of c.from-rate.ensures in
    record {
      few = l.invariant.few;
      place = omega (arith, e, l.invariant.place, start_more p q l.g (omega arith));
      filling = table_put p q l.g (omega arith) l.at _ _ l.tables l.invariant.place (ap (λ (n : ℕ). l.at + n) e) l.invariant.filling _ _ (rw c.from-rate.ensures at c.copy_table.ensures);
    }

pub returns : goal.returns
returns c =
    let l = c.loop-g in
    let p = c.args.plan in
    let e : l.g ≡ p.count = omega arith in
    let d = l.invariant.place ∙ ap (table_start p) e ∙ start_all p in
    filling_all _ _ l.at l.tables l.invariant.filling (omega (arith, d, l.invariant.filling.long))
