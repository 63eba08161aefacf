-- `run_list::write_all`: heading, groups and total are written one behind the other; the dummies are what is left of 120.
use Rattle.std.proofs.Common.{◌≡◌, ap₂, ◌-◌, arith, rules}
use Rattle.plan.proofs.PlanLaws.{accepted}
use Rattle.run_list.specs.Listing.{heading, dummy_total, total_line, list_text}
use Rattle.run_list.specs.ListingLaws.{length_groups}
use Rattle.texts.specs.Written.{written_then, written_is}
use Rattle.run_list.proofs.Sizes.{totals}
use Rattle.run_list.proofs.write_all.Goals as goal

pub overflow_sub-data : goal.overflow_sub-data
overflow_sub-data c = omega (arith, totals c.args.plan c.requires.plan, c.data_total-data.ensures)

pub write_total-requires : goal.write_total-requires
write_total-requires c =
    let p = c.args.plan in
    let a = accepted p c.requires.plan in
    let h = c.put_text-groups.ensures in
    let g = c.write_groups-total.ensures in
    record {
      data_small = omega (arith, totals p c.requires.plan, c.data_total-data.ensures);
      dummy_small = omega arith;
      room = omega (arith, c.requires.long, h.reached, h.same, g.reached, g.same, length_groups p p.count, a.high);
    }

pub returns : goal.returns
unfolding list_text heading
returns c =
    let p = c.args.plan in
    let h = c.put_text-groups.ensures in
    let d : 120 - c.data_total-data.result ≡ dummy_total p = omega (arith, totals p c.requires.plan, c.data_total-data.ensures) in
    written_then (search rules) h
    (written_then (omega (arith, h.reached, h.same, c.requires.long)) c.write_groups-total.ensures
    (written_is (ap₂ total_line c.data_total-data.ensures d) c.write_total.ensures))
