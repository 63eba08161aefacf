-- `published::copy_from`: each refusal has its number; the part between two starts is the table.
use Rattle.std.proofs.Common.{◌≡◌, sym, ◌∙◌, ℕ, ◌+◌, ◌-◌, List, true, arith}
use Rattle.lists.specs.Count.{joined}
use Rattle.lists.specs.CountLaws.{joined_at}
use Rattle.plan.specs.Rates.{rate_ok}
use Rattle.plan.proofs.RateLaws.{between}
use Rattle.published.specs.Published.{table_at, table_of}
use Rattle.published.specs.PublishedLaws.{number_unknown, number_long, number_good}
use Rattle.refusal.specs.AnswerLaws.{refused, accepted}
use Rattle.published.proofs.Starts.{Placed, placed}
use Rattle.published.proofs.copies.copy_from.Goals as goal

-- the table of a rate, between two starts
here : (tables : List ℕ) (rate from to : ℕ) → tables ≡ joined 11 table_at → rate_ok rate ≡ true → from ≡ joined_at table_at (rate - 1) → to ≡ joined_at table_at rate → Placed tables (rate - 1) from to
here tables rate from to e k f t =
    let b = between 1 11 rate k in
    let n : rate - 1 + 1 ≡ rate = omega (arith, b) in
    placed tables (rate - 1) from to e (omega (arith, b)) f (rw n t)

pub returns-in_default : goal.returns-in_default
returns-in_default c =
    let a = c.args in
    refused _ (table_of a.rate) a.area.now 1 (sym (number_unknown a.rate a.area.now c.in_default.ensures)) (λ e. omega arith)

pub offset_bounds-tables-place : goal.offset_bounds-tables-place
offset_bounds-tables-place c = let w = c.in-Some.ensures in omega (arith, here c.args.tables.now c.args.rate _ _ c.requires w.0 w.1 w.2)

pub slice_bounds-copy_from_slice-count : goal.slice_bounds-copy_from_slice-count
slice_bounds-copy_from_slice-count c = let w = c.in-Some.ensures in omega (arith, here c.args.tables.now c.args.rate _ _ c.requires w.0 w.1 w.2)

pub slice_bounds-copy_from_slice-start : goal.slice_bounds-copy_from_slice-start
slice_bounds-copy_from_slice-start c = let w = c.in-Some.ensures in omega (arith, here c.args.tables.now c.args.rate _ _ c.requires w.0 w.1 w.2)

pub slice_bounds-copy_from_slice-end : goal.slice_bounds-copy_from_slice-end
slice_bounds-copy_from_slice-end c = let w = c.in-Some.ensures in omega (arith, here c.args.tables.now c.args.rate _ _ c.requires w.0 w.1 w.2)

pub returns-then-area-len : goal.returns-then-area-len
returns-then-area-len c =
    let a = c.args in
    let w = c.in-Some.ensures in
    let p = here a.tables.now a.rate _ _ c.requires w.0 w.1 w.2 in
    refused _ (table_of a.rate) a.area.now 4 (sym (number_long a.rate a.area.now w.0 (λ e. c.if-area-len.true (e ∙ sym p.long ∙ sym c.len.ensures.value)))) (λ e. omega arith)

pub returns : goal.returns
returns c =
    let a = c.args in
    let w = c.in-Some.ensures in
    let p = here a.tables.now a.rate _ _ c.requires w.0 w.1 w.2 in
    accepted _ (table_of a.rate) a.area.now _ (number_good a.rate a.area.now w.0 (c.if-area-len.false ∙ c.len.ensures.value ∙ p.long)) (c.copy_from_slice.ensures.after ∙ p.there)
