-- `tlv_fill::packets::packets_ok`: what is left to test is the test from h on.
use mathlib.Core.Path.{sym, ap, ◌∙◌}
use Prim.Native.Nat.{ℕ, ◌+◌, ◌≤◌}
use native.Mathlib.Omega.{arith}
use borrow.Author.Rules.{rules}
use lib.ListN.{length}
use Rattle.tlv.specs.Packets.{octets, packets_from}
use Rattle.tlv.specs.PacketLaws.{size_least}
use Rattle.tlv_fill.specs.PacketTurns.{accept_end, accept_short, accept_wrong, accept_past, accept_body, accept_more}
use Rattle.tlv_fill.proofs.packets.packets_ok.Goals.{then-packets-h-lt4-via-then-packets-h-lt4, then-packets-h-lt4-via-else-packets-h-lt4+then-not-head_ok, then-packets-h-via-then-packets-h, then-packets-h-via-else-packets-h+then-not-body_ok}
use Rattle.tlv_fill.proofs.packets.packets_ok.Goals as goal

pub returns-then-packets-h-lt4 : goal.returns-then-packets-h-lt4
returns-then-packets-h-lt4 c =
    let l = c.loop-h in
    let w = l.invariant.within in
    elim c.then-packets-h-lt4.branch [
      | then-packets-h-lt4-via-then-packets-h-lt4 w ↦ sym (l.invariant.left ∙ accept_short _ _ l.h (omega arith) (omega arith))
      | then-packets-h-lt4-via-else-packets-h-lt4+then-not-head_ok w ↦ sym (l.invariant.left ∙ accept_wrong _ _ l.h (search rules) (omega arith) (sym w.head_ok.ensures ∙ w.if-not-head_ok.true))
    ]

pub returns-then-packets-h : goal.returns-then-packets-h
returns-then-packets-h c =
    let l = c.loop-h in
    let z = c.size_at-size.ensures.0 in
    let fits : l.h + 4 ≤ length c.args.packets.now = omega (arith, l.invariant.within) in
    let right = sym c.head_ok.ensures ∙ c.if-not-head_ok.false in
    elim c.then-packets-h.branch [
      | then-packets-h-via-then-packets-h w ↦ sym (l.invariant.left ∙ accept_past _ _ l.h (search rules) fits right (omega (arith, z)))
      | then-packets-h-via-else-packets-h+then-not-body_ok w ↦ sym (l.invariant.left ∙ accept_body _ _ l.h (search rules) fits right (omega (arith, l.invariant.within, z)) (sym w.body_ok.ensures ∙ w.if-not-body_ok.true))
    ]

pub body_ok-requires : goal.body_ok-requires
body_ok-requires c =
    let l = c.loop-h in
    let z = c.size_at-size.ensures.0 in
    (omega (arith, l.invariant.within), z, omega (arith, size_least (octets c.args.packets.now) l.h))

pub loop-h-smaller : goal.loop-h-smaller
loop-h-smaller c =
    let l = c.loop-h in
    omega (arith, l.invariant.within, c.size_at-size.ensures.0, size_least (octets c.args.packets.now) l.h)

pub loop-h-preserved : goal.loop-h-preserved
loop-h-preserved c =
    let xs = c.args.packets.now in
    let l = c.loop-h in
    let z = c.size_at-size.ensures.0 in
    let more = accept_more _ _ l.h (search rules) (omega (arith, l.invariant.within)) (sym c.head_ok.ensures ∙ c.if-not-head_ok.false) (omega (arith, l.invariant.within, z)) (sym c.body_ok.ensures ∙ c.if-not-body_ok.false) in
    record {
      within = omega (arith, l.invariant.within);
      left = l.invariant.left ∙ more ∙ ap (λ (k : ℕ). packets_from (octets xs) (length xs) (length xs) (l.h + k)) (sym z);
    }

pub returns : goal.returns
returns c =
    let l = c.loop-h in
    sym (l.invariant.left ∙ accept_end _ _ l.h (omega (arith, l.invariant.within)))
