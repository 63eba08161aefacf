-- `run_list::data_total`: the data slots of the groups passed.
use Rattle.std.proofs.Common.{◌≡◌, ap, ◌∙◌, ℕ, arith}
use Rattle.lists.specs.Count.{sum}
use Rattle.lists.specs.CountLaws.{sum_none, sum_more}
use Rattle.plan.specs.Plans.{data_slots_of}
use Rattle.run_list.specs.Listing.{data_total}
use Rattle.run_list.proofs.Sizes.{sizes}
use Rattle.run_list.proofs.data_total.Goals as goal

pub loop-g-init : goal.loop-g-init
loop-g-init c = record { few = omega arith; passed = grind (arith, sum_none) }

pub data_slots-sum-requires : goal.data_slots-sum-requires
data_slots-sum-requires c = let s = sizes c.args.plan c.loop-g.g c.requires (grind arith) in omega (arith, s.few)

pub overflow_add-sum : goal.overflow_add-sum
overflow_add-sum c =
    let s = sizes c.args.plan c.loop-g.g c.requires (grind arith) in
    omega (arith, s.few, s.carried, s.ends, c.data_slots-sum.ensures)

pub loop-g-preserved : goal.loop-g-preserved
loop-g-preserved c =
    let p = c.args.plan in
    let s = sizes p c.loop-g.g c.requires (grind arith) in
    record {
      few = omega (arith, s.carried, s.ends, c.data_slots-sum.ensures);
      passed = omega (arith, c.data_slots-sum.ensures, sum_more c.loop-g.g (data_slots_of p));
    }

pub returns : goal.returns
unfolding data_total
returns c =
    let e : c.loop-g.g ≡ c.args.plan.count = grind arith in
    c.loop-g.invariant.passed ∙ ap (λ (n : ℕ). sum n (data_slots_of c.args.plan)) e
