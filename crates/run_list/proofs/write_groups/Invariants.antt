-- `run_list::write_groups`: the lines of the groups passed are written.
use Rattle.std.proofs.Common.{◌≡◌}
use Rattle.lists.specs.Count.{joined}
use Rattle.plan.specs.Plans.{slots_before}
use Rattle.run_list.specs.Listing.{group_text}
use Rattle.texts.specs.Written.{Written}
use Rattle.run_list.proofs.write_groups.Given as goal

abbrev pub invariant-loop-g : goal.invariant-loop-g
invariant-loop-g l =
    record { before : l.passed ≡ slots_before l.plan l.g; lines : Written (joined l.g (group_text l.plan)) l.at l.initial.out l.out l.next }
