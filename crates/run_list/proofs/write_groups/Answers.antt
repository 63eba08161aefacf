-- `run_list::write_groups`: the lines of the groups passed are written.
use Rattle.std.proofs.Common.{◌≡◌, sym, ap, ℕ, arith}
use Rattle.lists.specs.Count.{joined}
use Rattle.lists.specs.CountLaws.{joined_none, joined_more}
use Rattle.plan.proofs.PlanLaws.{before_none, before_more}
use Rattle.run_list.specs.Listing.{group_text}
use Rattle.run_list.specs.ListingLaws.{length_groups}
use Rattle.run_list.proofs.Sizes.{sizes}
use Rattle.texts.specs.Written.{written_none, written_then, written_is}
use Rattle.run_list.proofs.write_groups.Goals as goal

pub loop-g-init : goal.loop-g-init
loop-g-init c =
    let p = c.args.plan in
    record { before = sym (before_none p); lines = written_is (sym (joined_none (group_text p))) (written_none _ _) }

pub write_group-next-requires : goal.write_group-next-requires
write_group-next-requires c =
    let p = c.args.plan in
    let g = c.loop-g.g in
    let s = sizes p g c.requires.plan (grind arith) in
    let w = c.loop-g.invariant.lines in
    record {
      plan = c.requires.plan;
      group = grind arith;
      before = c.loop-g.invariant.before;
      room = omega (arith, c.requires.room, w.reached, w.same, length_groups p g, s.few);
    }

pub loop-g-preserved : goal.loop-g-preserved
loop-g-preserved c =
    let p = c.args.plan in
    let g = c.loop-g.g in
    record {
      before = omega (arith, before_more p g, c.loop-g.invariant.before, c.from-passed.ensures);
      lines = written_is (sym (joined_more g (group_text p))) (written_then (omega (arith, c.requires.room)) c.loop-g.invariant.lines c.write_group-next.ensures);
    }

pub returns : goal.returns
returns c =
    let e : c.loop-g.g ≡ c.args.plan.count = grind arith in
    written_is (ap (λ (n : ℕ). joined n (group_text c.args.plan)) e) c.loop-g.invariant.lines
