-- `plan_text::read_lines`: the lines passed are right, and their numbers stand in the columns.
use Rattle.std.proofs.Common.{◌≡◌, sym, ap, ℕ, ◌+◌, ◌<◌, List, set, arith, rules}
use Rattle.std.proofs.lemmas.Bool.Decides.{nat_tests}
use Rattle.plan_text.specs.declared.Line.{Line}
use Rattle.plan_text.specs.Reading.{line_ok, line_of, line_start, text_number, plan_of, read_as}
use Rattle.plan_text.specs.ReadingLaws.{line_ahead, column_none, column_more}
use Rattle.plan_text.proofs.Lines.{passed_none, passed_next, passed_many, passed_wrong, passed_all, passed_ends}
use Rattle.plan_text.proofs.Picked.{picked_some, picked_none}
use Rattle.plan_text.proofs.read_lines.Invariants.{numbers}
use Rattle.plan_text.proofs.read_lines.Goals as goal

refuse : (t : List ℕ) → text_number t ≡ 1 → read_as 1 t ≡ read_as (text_number t) t
refuse t e = rw e

-- a number of the line stored
stored : (t : List ℕ) (f : Line → ℕ) (l : List ℕ) (i n at : ℕ) (line : Line) → n < 8 → l ≡ numbers t f n → i ≡ n → at ≡ line_start t n → line ≡ line_of t at
    → set l i (f line) ≡ numbers t f (n + 1)
stored t f l i n at line h p q r e =
    let v : f line ≡ f (line_of t (line_start t n)) = rw (e, r) in
    rw (p, q, v) (column_more (λ g. f (line_of t (line_start t g))) n h)

pub returns-then-text-gt128 : goal.returns-then-text-gt128
unfolding text_number
returns-then-text-gt128 c = refuse c.args.text.now (grind (arith, nat_tests))

pub loop-at-init : goal.loop-at-init
loop-at-init c =
    record { lines = passed_none c.args.text.now; first = sym (column_none _); second = sym (column_none _); third = sym (column_none _) }

pub returns-then-count-eq8 : goal.returns-then-count-eq8
returns-then-count-eq8 c =
    let l = c.loop-at in
    let t = c.args.text.now in
    refuse t (passed_many t l.count l.at l.invariant.lines c.if-count-eq8.true c.loop-at-test.true)

pub loop-at-smaller : goal.loop-at-smaller
loop-at-smaller c =
    let l = c.loop-at in
    let p = picked_some _ _ _ c.in-Some.ensures in
    let e = ap (λ (x : Line). x.next) p.1 in
    omega (arith, e, line_ahead c.args.text.now l.at, c.loop-at-test.true)

pub loop-at-preserved : goal.loop-at-preserved
loop-at-preserved c =
    let l = c.loop-at in
    let t = c.args.text.now in
    let h : l.count < 8 = omega (arith, l.invariant.lines.few) in
    let p = picked_some _ _ _ c.in-Some.ensures in
    let e = p.1 in
    let i = l.invariant.lines.place in
    let j : c.from-g.result ≡ l.count = search rules in
    record {
      lines = rw e (passed_next t l.count l.at l.invariant.lines h c.loop-at-test.true p.0);
      first = stored t (λ x. x.modulation) l.modulation _ l.count l.at _ h l.invariant.first j i e;
      second = stored t (λ x. x.rate) l.rate _ l.count l.at _ h l.invariant.second j i e;
      third = stored t (λ x. x.slots) l.slots _ l.count l.at _ h l.invariant.third j i e;
    }

pub returns-in_default : goal.returns-in_default
returns-in_default c =
    let l = c.loop-at in
    let t = c.args.text.now in
    refuse t (passed_wrong t l.count l.at l.invariant.lines c.loop-at-test.true (picked_none (line_ok t l.at) (line_of t l.at) (search rules)))

pub returns : goal.returns
unfolding plan_of
returns c =
    let l = c.loop-at in
    let t = c.args.text.now in
    let z = passed_ends t l.count l.at l.invariant.lines c.loop-at-test.false c.if-text-gt128.false in
    let n = passed_all t l.count l.at l.invariant.lines c.loop-at-test.false in
    rw (z, n, ← l.invariant.first, ← l.invariant.second, ← l.invariant.third, c.of_columns.ensures)
