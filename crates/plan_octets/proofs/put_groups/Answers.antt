-- `plan_octets::put_groups`: the area is filled group by group.
use Rattle.std.proofs.Common.{◌≡◌, ◌+◌, ◌*◌, sym, ◌∙◌, arith}
use Rattle.lists.specs.FillingLaws.{filling_none, filling_part, filling_all}
use Rattle.lists.specs.PartLaws.{length_part}
use Rattle.plan_octets.specs.GroupLaws.{length_groups_of, group_in}
use Rattle.plan_octets.proofs.put_groups.Goals as goal

pub loop-g-init : goal.loop-g-init
loop-g-init c = filling_none _ _ (length_groups_of c.args.plan ∙ sym c.requires.long)

pub put_group-requires : goal.put_group-requires
put_group-requires c =
    let g = c.loop-g.g in
    record {
      fits = c.requires.fits;
      group = omega arith;
      long = length_part (3 * g) (3 * g + 3) _ (omega (arith, c.requires.long)) ∙ omega arith;
    }

pub loop-g-preserved : goal.loop-g-preserved
loop-g-preserved c =
    let g = c.loop-g.g in
    let e : 3 * (g + 1) ≡ 3 * g + 3 = omega arith in
    rw e
    (filling_part _ _ (3 * g) _ c.loop-g.invariant (3 * g + 3) _ (omega arith) (omega (arith, c.requires.long))
    (c.put_group.ensures ∙ sym (group_in c.args.plan g (omega arith))))

pub returns : goal.returns
returns c = filling_all _ _ _ _ c.loop-g.invariant (omega (arith, c.requires.long))
