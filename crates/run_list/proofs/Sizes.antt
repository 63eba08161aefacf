-- How large the numbers of an accepted plan's groups are, and the sums of its data and dummy slots.
use mathlib.Core.Path.{◌≡◌, sym, ◌∙◌}
use Prim.Native.Nat.{ℕ, ◌+◌, ◌-◌, ◌≤◌, ◌<◌}
use native.Mathlib.Omega.{arith}
use Rattle.lists.specs.CountLaws.{sum_add, sum_same}
use Rattle.plan.specs.declared.Plan.{Plan}
use Rattle.plan.specs.Plans.{modulation_of, rate_of, slots_of, slots_before, plan_number, data_slots_of}
use Rattle.plan.proofs.PlanLaws.{accepted, group_values, before_more, before_mono, data_within}
use Rattle.plan.proofs.RateLaws.{between}
use Rattle.run_list.specs.Listing.{data_total, dummy_total}

pub record Sizes (p : Plan) (g : ℕ) : Type 0 where
  pub few : g < 8
  pub ends : slots_before p g + slots_of p g ≤ 120
  pub carried : data_slots_of p g ≤ slots_of p g
  pub modulation : modulation_of p g ≤ 5
  pub rate : rate_of p g ≤ 11

pub sizes : (p : Plan) (g : ℕ) → plan_number p ≡ 0 → g < p.count → Sizes p g
sizes p g n h =
    let a = accepted p n in
    let v = group_values p g a h in
    let m = between 1 5 (modulation_of p g) v.modulation in
    let e : slots_before p g + slots_of p g ≤ 120 = omega (arith, before_more p g, before_mono p (g + 1) p.count (omega arith), a.total) in
    record {
      few = omega (arith, a.high);
      ends = e;
      carried = data_within p g a h;
      modulation = m.high;
      rate = (between 1 11 (rate_of p g) v.rate).high;
    }

-- the data and the dummy slots together are 120
pub totals : (p : Plan) → plan_number p ≡ 0 → data_total p + dummy_total p ≡ 120
unfolding data_total dummy_total slots_before
totals p n =
    let a = accepted p n in
    sym (sum_add p.count (data_slots_of p) (λ g. slots_of p g - data_slots_of p g))
    ∙ sum_same p.count (λ g. data_slots_of p g + (slots_of p g - data_slots_of p g)) (slots_of p) (λ g h. omega (arith, data_within p g a h))
    ∙ a.total
