-- `tlv_read::Slots::whole`: a lost slot that is met, the end of the slots, or neither.
use mathlib.Core.Path.{refl, sym}
use mathlib.Core.Bool.{true, false}
use Prim.Native.Nat.{◌*◌}
use native.Mathlib.Omega.{arith}
use borrow.Author.Tests.{lt-ltb, le-ltb}
use lib.ListN.{length}
use Rattle.tlv_read.specs.StepLaws.{whole_lost, whole_sound}
use Rattle.tlv_read.proofs.slots.Slots.whole.Goals as goal

pub returns-in-Some : goal.returns-in-Some
returns-in-Some c =
    let s = c.args.self in
    rw c.behind.ensures (whole_lost s.size (length s.begins.now) s.lost.now s.begins.now c.args.slot c.args.p c.args.to c.requires c.in-Some.gone c.in-Some.ensures.first c.in-Some.ensures.within false false _ 0 refl refl refl refl)

pub returns-then-self-to : goal.returns-then-self-to
returns-then-self-to c =
    let s = c.args.self in
    whole_sound s.size (length s.begins.now) s.lost.now s.begins.now c.args.slot c.args.p c.args.to c.requires _ c.in_default.ensures.first (omega arith)
    true (sym (lt-ltb (s.size * length s.begins.now) c.args.to (omega (arith, s.lending.long))))

pub returns : goal.returns
returns c =
    let s = c.args.self in
    whole_sound s.size (length s.begins.now) s.lost.now s.begins.now c.args.slot c.args.p c.args.to c.requires _ c.in_default.ensures.first (omega arith)
    false (sym (le-ltb (s.size * length s.begins.now) c.args.to (omega (arith, s.lending.long))))
