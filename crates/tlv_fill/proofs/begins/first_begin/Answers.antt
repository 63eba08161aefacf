-- `tlv_fill::begins::first_begin`: nothing begins between the target and the place reached.
use native.Mathlib.Omega.{arith}
use borrow.Author.Rules.{rules}
use Rattle.tlv.specs.PacketLaws.{size_least}
use Rattle.tlv.specs.Packets.{octets}
use Rattle.tlv_fill.specs.BeginTurns.{within_packet, ahead_packet, ahead_filler}
use Rattle.tlv_fill.proofs.begins.first_begin.Goals as goal

pub loop-at-init : goal.loop-at-init
loop-at-init c = c.requires.from

pub overflow_add-result : goal.overflow_add-result
overflow_add-result c = omega (arith, c.requires.room, c.lacking.ensures)

pub returns-then-packets-at : goal.returns-then-packets-at
returns-then-packets-at c =
    let s = c in
    let a = ahead_filler s.args.packets.now s.requires.right s.args.target (search rules) in
    (rw c.lacking.ensures a, search rules)

pub size_at-at-requires : goal.size_at-at-requires
size_at-at-requires c =
    let l = c.loop-at in
    let s = c in
    let xs = s.args.packets.now in
    let w = (within_packet xs s.requires.right l.at l.invariant.begins (search rules)).within in
    omega (arith, size_least (octets xs) l.at)

pub overflow_add-at : goal.overflow_add-at
overflow_add-at c = omega (arith, c.size_at-at.ensures.1)

pub loop-at-smaller : goal.loop-at-smaller
loop-at-smaller c = omega (arith, c.size_at-at.ensures.0, size_least (octets c.args.packets.now) c.loop-at.at)

pub loop-at-preserved : goal.loop-at-preserved
loop-at-preserved c =
    let l = c.loop-at in
    let s = c in
    ahead_packet s.args.packets.now s.requires.right s.args.target l.at c.size_at-at.result (search rules) (search rules) c.size_at-at.ensures.0 l.invariant

pub returns : goal.returns
returns c = (c.loop-at.invariant, search rules)
