-- `tlv_read::Slots::read_from`: the area holds what was written, and the reading from p on is left.
use mathlib.Core.Path.{refl, ap, ◌∙◌}
use mathlib.Core.Bool.{true, false}
use Prim.Native.Nat.{◌+◌}
use native.Mathlib.Omega.{arith}
use lib.ListN.{length}
use Rattle.lists.specs.PartLaws.{put_lent, length_part}
use Rattle.tlv_read.specs.ReadTurns.{goal, turn_start, turn_end, turn_moves, turn_next}
use Rattle.tlv_read.proofs.Moved.{lent_needs}
use Rattle.tlv_read.proofs.slots.Slots.read_from.Goals as goal

pub loop-at-init : goal.loop-at-init
loop-at-init c =
    let a = c.args in
    let s = a.self in
    turn_start _ _ _ _ _ _ _ (lent_needs s.size s.octets.now s.lost.now s.begins.now a.from a.packets.now s.lending c.requires.within c.requires.place)

pub returns-in-Stop : goal.returns-in-Stop
unfolding goal
returns-in-Stop c =
    let a = c.args in
    let s = a.self in
    let l = c.loop-at in
    let needs = lent_needs s.size s.octets.now s.lost.now s.begins.now a.from a.packets.now s.lending c.requires.within c.requires.place in
    turn_end _ _ _ _ _ _ _ needs l.p l.w l.packets l.invariant c.in-Stop.at 0 true refl c.in-Stop.ensures

pub overflow_add-p : goal.overflow_add-p
overflow_add-p c =
    let a = c.args in
    let s = a.self in
    let l = c.loop-at in
    let needs = lent_needs s.size s.octets.now s.lost.now s.begins.now a.from a.packets.now s.lending c.requires.within c.requires.place in
    let m = turn_moves _ _ _ _ _ _ _ needs l.p l.w l.packets l.invariant c.in-On.at c.in-On.size false refl c.in-On.ensures in
    omega (arith, m.from_end)

pub overflow_add-w : goal.overflow_add-w
overflow_add-w c =
    let a = c.args in
    let s = a.self in
    let l = c.loop-at in
    let needs = lent_needs s.size s.octets.now s.lost.now s.begins.now a.from a.packets.now s.lending c.requires.within c.requires.place in
    let m = turn_moves _ _ _ _ _ _ _ needs l.p l.w l.packets l.invariant c.in-On.at c.in-On.size false refl c.in-On.ensures in
    omega (arith, m.to_end)

pub slice_bounds-copy-end : goal.slice_bounds-copy-end
slice_bounds-copy-end c =
    let a = c.args in
    let s = a.self in
    let l = c.loop-at in
    let needs = lent_needs s.size s.octets.now s.lost.now s.begins.now a.from a.packets.now s.lending c.requires.within c.requires.place in
    let m = turn_moves _ _ _ _ _ _ _ needs l.p l.w l.packets l.invariant c.in-On.at c.in-On.size false refl c.in-On.ensures in
    omega (arith, m.to_end)

pub slice_bounds-copy-end-in-On : goal.slice_bounds-copy-end-in-On
slice_bounds-copy-end-in-On c =
    let a = c.args in
    let s = a.self in
    let l = c.loop-at in
    let needs = lent_needs s.size s.octets.now s.lost.now s.begins.now a.from a.packets.now s.lending c.requires.within c.requires.place in
    let m = turn_moves _ _ _ _ _ _ _ needs l.p l.w l.packets l.invariant c.in-On.at c.in-On.size false refl c.in-On.ensures in
    omega (arith, m.from_end)

pub loop-at-smaller : goal.loop-at-smaller
loop-at-smaller c =
    let a = c.args in
    let s = a.self in
    let l = c.loop-at in
    let needs = lent_needs s.size s.octets.now s.lost.now s.begins.now a.from a.packets.now s.lending c.requires.within c.requires.place in
    let m = turn_moves _ _ _ _ _ _ _ needs l.p l.w l.packets l.invariant c.in-On.at c.in-On.size false refl c.in-On.ensures in
    omega (arith, m.on, m.within, s.lending.long)

pub loop-at-preserved : goal.loop-at-preserved
loop-at-preserved c =
    let a = c.args in
    let s = a.self in
    let l = c.loop-at in
    let needs = lent_needs s.size s.octets.now s.lost.now s.begins.now a.from a.packets.now s.lending c.requires.within c.requires.place in
    let m = turn_moves _ _ _ _ _ _ _ needs l.p l.w l.packets l.invariant c.in-On.at c.in-On.size false refl c.in-On.ensures in
    let size = c.in-On.size in
    let y = c.copy.ensures in
    turn_next _ _ _ _ _ _ _ needs l.p l.w l.packets l.invariant c.in-On.at size false refl c.in-On.ensures _ _ y
    (put_lent l.w (l.w + size) l.packets _ (omega arith) (ap length y ∙ length_part l.p (l.p + size) s.octets.now m.from_end ∙ omega arith))
