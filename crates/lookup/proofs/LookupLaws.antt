-- Laws of what is asked of a plan: a slot that has a place, the published tables group by group, and that whole-frame calls
-- take them.
use Rattle.std.specs.Prelude.{◌≡◌, true, List, ℕ, zero, suc, ◌+◌, ◌-◌, ◌*◌, ◌≤◌, ◌<◌, eqb, leb}
use Rattle.std.proofs.Math.Path.{sym}
use Rattle.std.proofs.Common.{◌∙◌, add-one, arith, eq-eqb, leb-true}
use Rattle.std.proofs.lemmas.Bool.{eqb-false}
use borrow.Rule.Slice.PartMut.{put_mid}
use Rattle.std.proofs.Math.ListN.{length}
use Rattle.lists.specs.Choice.{pick}
use Rattle.lists.specs.ChoiceLaws.{then_zero, not_refused, no_cause}
use Rattle.lists.specs.CountLaws.{joined_at, length_joined, joined_part, sum_none, sum_more, sum_mono}
use Rattle.lists.specs.Filling.{Filling}
use Rattle.lists.specs.FillingLaws.{filling_part}
use Rattle.lists.specs.Parts.{part}
use Rattle.lists.specs.PartLaws.{length_part}
use Rattle.refusal.specs.Answers.{Answered}
use Rattle.refusal.specs.Numbers.{PLAN, FULL}
use Rattle.plan.specs.declared.Plan.{Plan}
use Rattle.plan.specs.Needs.{SlotOf}
use Rattle.plan.specs.Rates.{rate_ok}
use Rattle.plan.proofs.RateLaws.{between}
use Rattle.plan.specs.Plans.{rate_of, plan_number}
use Rattle.plan.proofs.PlanLaws.{accepted, group_values}
use Rattle.published.specs.Published.{table_of, length_of, copy_number}
use Rattle.published.specs.PublishedLaws.{accepted as table_accepted, table_short, number_good}
use Rattle.frame.specs.Tables.{tables_ok}
use Rattle.frame.proofs.TableLaws.{joined_ok}
use Rattle.lookup.specs.Lookups.{tables_of, place_number}

-- a slot whose place is refused for nothing is one of an accepted plan
pub slot_there : (p : Plan) (s : ℕ) → place_number p s ≡ 0 → SlotOf p s
unfolding place_number
slot_there p s h =
    let a = then_zero (pick (eqb s 0) PLAN 0) _ h in
    let b = then_zero (plan_number p) _ a.1 in
    let z : s ≡ 0 → ⊥ = eqb-false s 0 (no_cause (eqb s 0) PLAN (omega arith) a.0) in
    record { plan = b.0; low = omega (arith, z); high = leb-true s 120 (not_refused (leb s 120) FULL (omega arith) b.1) }

-- where the table of group g begins
unfoldable pub table_start : Plan → ℕ → ℕ
table_start p g = joined_at (λ k. table_of (rate_of p k)) g

module _ (p : Plan) where
  pub start_none : table_start p 0 ≡ 0
  unfolding table_start
  start_none = sum_none (λ k. length (table_of (rate_of p k)))

  pub start_all : table_start p p.count ≡ length (tables_of p)
  unfolding table_start tables_of
  start_all = sym (length_joined p.count (λ k. table_of (rate_of p k)))

  pub start_within : (g : ℕ) → g ≤ p.count → table_start p g ≤ length (tables_of p)
  unfolding table_start
  start_within g h = omega (arith, start_all, sum_mono g p.count (λ k. length (table_of (rate_of p k))) h)

  -- the table of group g in its place
  pub table_there : (g : ℕ) → g < p.count → part (table_start p g) (table_start p (g + 1)) (tables_of p) ≡ table_of (rate_of p g)
  unfolding table_start tables_of
  table_there g h = joined_part p.count (λ k. table_of (rate_of p k)) g h

  module _ (n : plan_number p ≡ 0) where
    pub rate_known : (g : ℕ) → g < p.count → rate_ok (rate_of p g) ≡ true
    rate_known g h = (group_values p g (accepted p n) h).rate

    -- one group's table more
    pub start_more : (g : ℕ) → g < p.count → table_start p (g + 1) ≡ table_start p g + length_of (rate_of p g)
    unfolding table_start length_of
    start_more g h = rw (rate_known g h) (sum_more g (λ k. length (table_of (rate_of p k))))

    length_known : (g : ℕ) → g < p.count → length_of (rate_of p g) ≡ length (table_of (rate_of p g))
    unfolding length_of
    length_known g h = rw (rate_known g h)

    -- no table has more than 510 numbers, and no plan more than eight groups
    start_few : (g : ℕ) → g ≤ p.count → table_start p g ≤ 510 * g
    start_few zero h = omega (arith, start_none)
    start_few (suc g) h =
        let b = between 1 11 (rate_of p g) (rate_known g h) in
        rw (← add-one g) (omega (arith, start_few g (omega arith), start_more g h, length_known g h, table_short (rate_of p g) b.low b.high))

    pub tables_few : length (tables_of p) ≤ 4080
    tables_few = omega (arith, start_all, start_few p.count (omega arith), (accepted p n).high)

    -- the call that copies the table of one group more behind those before it is refused for nothing
    module _ (g : ℕ) (h : g < p.count) (at end : ℕ) (found area : List ℕ) (e : at ≡ table_start p g) (d : end ≡ at + length_of (rate_of p g)) (f : Filling (tables_of p) found at area) where
      table_end : end ≡ table_start p (g + 1)
      table_end = d ∙ omega (arith, e, start_more g h)

      table_within : end ≤ length area
      table_within = omega (arith, table_end, start_within (g + 1) (omega arith), f.long, f.same)

      pub table_taken : copy_number (rate_of p g) (part at end area) ≡ 0
      table_taken = number_good (rate_of p g) (part at end area) (rate_known g h) (length_part at end area table_within ∙ omega (arith, d, length_known g h))

      pub table_put : (r : ℕ) (left : List ℕ) → Answered (copy_number (rate_of p g) (part at end area)) (table_of (rate_of p g)) (part at end area) r left
          → Filling (tables_of p) found end (put_mid at (end - at) area left)
      table_put r left a =
          let y : left ≡ table_of (rate_of p g) = a.area ∙ rw (eq-eqb _ 0 table_taken) in
          filling_part (tables_of p) found at area f end left (omega (arith, d)) (omega (arith, table_within, f.same)) (y ∙ rw (e, table_end) (sym (table_there g h)))

    -- the published tables of an accepted plan are tables that whole-frame calls accept
    pub tables_accepted : tables_ok p (tables_of p) ≡ true
    unfolding tables_of
    tables_accepted =
        joined_ok p (λ g. table_of (rate_of p g))
        (λ g h. let b = between 1 11 (rate_of p g) (rate_known g h) in table_accepted (rate_of p g) b.low b.high)
