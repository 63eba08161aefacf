-- `plan_octets::put_group`: three octets stored are all of the area; they fit, or are zeros.
use mathlib.Core.Path.{sym, ◌∙◌}
use borrow.Author.Rules.{rules}
use Rattle.plan_octets.specs.GroupLaws.{three_set, group_used, group_unused}
use Rattle.plan_octets.proofs.put_group.Goals as goal

pub overflow_cast-octets : goal.overflow_cast-octets
overflow_cast-octets c = let s = c in record { fits = s.requires.fits.modulation s.args.g (search rules) }

pub overflow_cast-octets-then-g-from : goal.overflow_cast-octets-then-g-from
overflow_cast-octets-then-g-from c = let s = c in record { fits = s.requires.fits.rate s.args.g (search rules) }

pub overflow_cast-octets-then-g-from-2 : goal.overflow_cast-octets-then-g-from-2
overflow_cast-octets-then-g-from-2 c = let s = c in record { fits = s.requires.fits.slots s.args.g (search rules) }

pub returns-then-g-from : goal.returns-then-g-from
returns-then-g-from c =
    let s = c in
    three_set s.args.octets.now _ _ _ s.requires.long ∙ sym (group_used s.args.plan s.args.g (search rules))

pub returns-else-g-from : goal.returns-else-g-from
returns-else-g-from c =
    let s = c in
    c.fill.ensures.after (λ y e. search rules) ∙ rw s.requires.long (sym (group_unused s.args.plan s.args.g (search rules)))
