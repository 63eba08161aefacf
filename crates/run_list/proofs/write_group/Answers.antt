-- `run_list::write_group`: the two runs are written one behind the other.
use Rattle.std.proofs.Common.{◌≡◌, sym, ap, ap₂, ◌∙◌, Bool, true, false, [], ℕ, ◌+◌, ◌≤◌, List, length, leb, arith}
use Rattle.lists.specs.Choice.{pick}
use Rattle.plan.specs.declared.Plan.{Plan}
use Rattle.plan.specs.Plans.{modulation_of, rate_of}
use Rattle.plan.specs.Places.{run_first, run_last}
use Rattle.plan.proofs.PlanLaws.{before_more}
use Rattle.run_list.specs.Listing.{kind_word, run_line, run_text, group_text}
use Rattle.run_list.specs.ListingLaws.{length_run_line}
use Rattle.run_list.proofs.Sizes.{sizes}
use Rattle.texts.specs.Written.{written_then, written_is}
use Rattle.run_list.proofs.write_group.Goals as goal

run_is : (p : Plan) (g : ℕ) (b : Bool) (from to m r : ℕ) → from ≡ run_first p g b → to ≡ run_last p g b → m ≡ modulation_of p g → r ≡ rate_of p g
    → pick (leb from to) (run_line from to m r (kind_word b)) [] ≡ run_text p g b
unfolding run_text
run_is p g b from to m r d e f h = rw (d, e, f, h)

-- a run's line takes little room
short : (b : Bool) (from to m r : ℕ) (word : List ℕ) → length (pick b (run_line from to m r word) []) ≤ 16 + length word
short true from to m r word = length_run_line from to m r word
short false from to m r word = omega arith

pub write_run-requires : goal.write_run-requires
write_run-requires c =
    let z = sizes c.args.plan c.args.g c.requires.plan c.requires.group in
    let w = c.write_run-next.ensures in
    record {
      begins = omega (arith, z.ends, z.carried, c.requires.before, c.data_slots.ensures);
      ends = omega (arith, z.ends, c.requires.before, c.from-slots.ensures);
      modulation_small = omega (arith, z.modulation, c.from-modulation.ensures);
      rate_small = omega (arith, z.rate, c.from-rate.ensures);
      room = omega (arith, c.requires.room, w.reached, w.same, short);
    }

pub returns : goal.returns
unfolding group_text run_first run_last kind_word
returns c =
    let p = c.args.plan in
    let g = c.args.g in
    let m = c.from-modulation.ensures in
    let r = c.from-rate.ensures in
    let e = ap₂ (λ (m n : ℕ). m + n) c.requires.before c.data_slots.ensures in
    let f = ap₂ (λ (m n : ℕ). m + n) c.requires.before c.from-slots.ensures ∙ sym (before_more p g) in
    written_then (omega (arith, c.requires.room)) (written_is (run_is p g true _ _ _ _ (ap (λ (n : ℕ). n + 1) c.requires.before) e m r) c.write_run-next.ensures)
    (written_is (run_is p g false _ _ _ _ (ap (λ (n : ℕ). n + 1) e) f m r) c.write_run.ensures)
