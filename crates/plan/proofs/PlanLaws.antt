-- Laws of plans: what an accepted plan has.
use Rattle.std.specs.Prelude.{◌≡◌, true, false, ◌↔◌, ℕ, ◌+◌, ◌-◌, ◌%◌, ◌≤◌, ◌<◌, leb}
use Rattle.std.proofs.Common.{mul-le-mul_left, arith, leb-true, eqb-true}
use Rattle.lists.specs.Choice.{pick}
use Rattle.lists.specs.ChoiceLaws.{and_left, and_right, pick_each, then_each, then_zero, not_refused}
use Rattle.refusal.specs.Numbers.{PLAN, VALUE, ORDER, TOTAL}
use Rattle.lists.specs.CountLaws.{sum_none, sum_more, sum_mono, sum_same, every_at, every_same}
use Rattle.plan.specs.declared.Plan.{Plan}
use Rattle.plan.specs.Rates.{rate_ok, modulation_ok}
use Rattle.plan.proofs.RateLaws.{between}
use Rattle.plan.specs.Plans.{modulation_of, rate_of, slots_of, slots_before, groups_ok, values_ok, falls_after, all_values_ok, all_fall, total_ok, plan_ok, plan_number, data_slots_of}

pub before_none : (p : Plan) → slots_before p 0 ≡ 0
unfolding slots_before
before_none p = sum_none (slots_of p)

pub before_more : (p : Plan) (g : ℕ) → slots_before p (g + 1) ≡ slots_before p g + slots_of p g
unfolding slots_before
before_more p g = sum_more g (slots_of p)

pub before_mono : (p : Plan) (g h : ℕ) → g ≤ h → slots_before p g ≤ slots_before p h
unfolding slots_before
before_mono p g h = sum_mono g h (slots_of p)

-- a plan is accepted exactly when it keeps all four rules
pub plan_ok_law : (p : Plan) → (plan_number p ≡ 0) ↔ (plan_ok p ≡ true)
unfolding plan_number plan_ok
plan_ok_law p = (there, back)
  where
    there : plan_number p ≡ 0 → plan_ok p ≡ true
    there h =
        let a = then_zero (pick (groups_ok p) 0 PLAN) _ h in
        let b = then_zero (pick (all_values_ok p) 0 VALUE) _ a.1 in
        let c = then_zero (pick (all_fall p) 0 ORDER) _ b.1 in
        rw (not_refused (groups_ok p) PLAN (omega arith) a.0, not_refused (all_values_ok p) VALUE (omega arith) b.0, not_refused (all_fall p) ORDER (omega arith) c.0)
        (not_refused (total_ok p) TOTAL (omega arith) c.1)

    back : plan_ok p ≡ true → plan_number p ≡ 0
    back h =
        let a = and_right (groups_ok p) _ h in
        let b = and_right (all_values_ok p) _ a in
        rw (and_left (groups_ok p) _ h, and_left (all_values_ok p) _ a, and_left (all_fall p) _ b, and_right (all_fall p) _ b)

-- an accepted plan
pub record Accepted (p : Plan) : Type 0 where
  pub low : 1 ≤ p.count
  pub high : p.count ≤ 8
  pub values : all_values_ok p ≡ true
  pub order : all_fall p ≡ true
  pub total : slots_before p p.count ≡ 120

pub accepted : (p : Plan) → plan_number p ≡ 0 → Accepted p
unfolding plan_ok groups_ok
accepted p h =
    let k = (plan_ok_law p).0 h in
    let a = and_right (groups_ok p) _ k in
    let b = and_right (all_values_ok p) _ a in
    let g = between 1 8 p.count (and_left (groups_ok p) _ k) in
    record {
      low = g.low;
      high = g.high;
      values = and_left (all_values_ok p) _ a;
      order = and_left (all_fall p) _ b;
      total = eqb-true (slots_before p p.count) 120 (and_right (all_fall p) _ b);
    }

-- a refused plan's number is that of the first rule that it breaks
module _ (p : Plan) where
  pub wrong_groups : groups_ok p ≡ false → plan_number p ≡ PLAN
  unfolding plan_number
  wrong_groups g = rw g

  pub wrong_value : groups_ok p ≡ true → all_values_ok p ≡ false → plan_number p ≡ VALUE
  unfolding plan_number
  wrong_value g v = rw (g, v)

  pub wrong_order : groups_ok p ≡ true → all_values_ok p ≡ true → all_fall p ≡ false → plan_number p ≡ ORDER
  unfolding plan_number
  wrong_order g v o = rw (g, v, o)

  pub wrong_total : groups_ok p ≡ true → all_values_ok p ≡ true → all_fall p ≡ true → total_ok p ≡ false → plan_number p ≡ TOTAL
  unfolding plan_number
  wrong_total g v o t = rw (g, v, o, t)

-- a plan's number goes by the groups that are in use
module _ (p q : Plan) (count : p.count ≡ q.count) (modulation : (g : ℕ) → g < p.count → modulation_of p g ≡ modulation_of q g)
    (rate : (g : ℕ) → g < p.count → rate_of p g ≡ rate_of q g) (slots : (g : ℕ) → g < p.count → slots_of p g ≡ slots_of q g) where
  values_same : (g : ℕ) → g < p.count → values_ok p g ≡ values_ok q g
  unfolding values_ok
  values_same g h = rw (modulation g h, rate g h, slots g h)

  falls_same : (g : ℕ) → g < p.count - 1 → falls_after p g ≡ falls_after q g
  unfolding falls_after
  falls_same g h =
      rw (modulation g (omega arith), rate g (omega arith), modulation (g + 1) (omega arith), rate (g + 1) (omega arith))

  before_same : slots_before p p.count ≡ slots_before q p.count
  unfolding slots_before
  before_same = sum_same p.count (slots_of p) (slots_of q) slots

  pub plan_same : plan_number p ≡ plan_number q
  unfolding plan_number groups_ok
  plan_same =
      rw (every_same p.count (values_ok p) (values_ok q) values_same, every_same (p.count - 1) (falls_after p) (falls_after q) falls_same, before_same, count)

-- what holds of 0 and of the four refusals holds of every plan's number
pub plan_each : (P : ℕ → Type 0) → P 0 → P PLAN → P VALUE → P ORDER → P TOTAL → (p : Plan) → P (plan_number p)
unfolding plan_number
plan_each P z g v o t p =
    then_each P (pick_each P (groups_ok p) z g)
    (then_each P (pick_each P (all_values_ok p) z v)
    (then_each P (pick_each P (all_fall p) z o) (pick_each P (total_ok p) z t)))

-- the values of a group that is accepted
pub record Values (m r n : ℕ) : Type 0 where
  pub modulation : modulation_ok m ≡ true
  pub rate : rate_ok r ≡ true
  pub some : 1 ≤ n
  pub fives : n % 5 ≡ 0

pub values_are : (p : Plan) (g : ℕ) → values_ok p g ≡ true → Values (modulation_of p g) (rate_of p g) (slots_of p g)
unfolding values_ok
values_are p g h =
    let a = and_right (modulation_ok (modulation_of p g)) _ h in
    let b = and_right (rate_ok (rate_of p g)) _ a in
    record {
      modulation = and_left (modulation_ok (modulation_of p g)) _ h;
      rate = and_left (rate_ok (rate_of p g)) _ a;
      some = leb-true 1 (slots_of p g) (and_left (leb 1 (slots_of p g)) _ b);
      fives = eqb-true (slots_of p g % 5) 0 (and_right (leb 1 (slots_of p g)) _ b);
    }

pub group_values : (p : Plan) (g : ℕ) → Accepted p → g < p.count → Values (modulation_of p g) (rate_of p g) (slots_of p g)
group_values p g a h = values_are p g (every_at p.count (values_ok p) a.values g h)

-- no more slots carry data than a group has
pub data_within : (p : Plan) (g : ℕ) → Accepted p → g < p.count → data_slots_of p g ≤ slots_of p g
unfolding data_slots_of
data_within p g a h =
    let v = group_values p g a h in
    let m = between 1 5 (modulation_of p g) v.modulation in
    let t = mul-le-mul_left (slots_of p g) m.high in
    omega arith
