-- `bits::collect`: the area is filled with the octets that the bits make.
use Rattle.std.proofs.Common.{◌+◌, ◌*◌, length, arith, rules}
use Rattle.lists.specs.FillingLaws.{filling_none, filling_more}
use Rattle.lists.specs.RunLaws.{below_part}
use Rattle.bits.specs.OctetLaws.{length_octets_of, octets_of_octets}
use Rattle.bits.proofs.Turns.{collect_turn, next_eight}
use Rattle.bits.proofs.octets.collect.Goals as goal

pub loop-i-init : goal.loop-i-init
loop-i-init c = record { rest = search rules; size = search rules; filling = search (rules, filling_none, length_octets_of) }

pub gather-requires : goal.gather-requires
gather-requires c =
    let s = c.in-Some.ensures.steps.0.1 in
    let l = c.loop-i in
    let u = c.args.bits.now in
    let k = l.i-iterator.count in
    let t = next_eight u _ _ _ k _ l.invariant.rest s.0 s.1 l.invariant.size in
    record { few = omega arith; bits = rw t.is (below_part 1 (8 * k) (8 * k + 8) u c.requires.bits) }

pub overflow_cast-octets : goal.overflow_cast-octets
overflow_cast-octets c =
    let s = c.in-Some.ensures.steps.0.1 in
    let l = c.loop-i in
    let u = c.args.bits.now in
    let k = l.i-iterator.count in
    let n = length c.args.octets.now in
    let t = next_eight u _ _ _ k _ l.invariant.rest s.0 s.1 l.invariant.size in
    omega (arith, octets_of_octets n u c.requires.bits k, collect_turn u _ _ n k _ t (omega arith) c.gather.ensures)

pub loop-i-preserved : goal.loop-i-preserved
loop-i-preserved c =
    let s = c.in-Some.ensures.steps in
    let l = c.loop-i in
    let u = c.args.bits.now in
    let k = l.i-iterator.count in
    let t = next_eight u _ _ _ k _ l.invariant.rest s.0.1.0 s.0.1.1 l.invariant.size in
    let v = collect_turn u _ _ (length c.args.octets.now) k _ t (omega arith) c.gather.ensures in
    rw (s.2, s.1)
    (record {
      rest = t.behind;
      size = search rules;
      filling = filling_more _ _ k l.octets l.invariant.filling _ (omega arith) v;
    })
