-- `tlv::packets::body_ok`: another type decides, else all octets.
use mathlib.Core.Path.{◌≡◌, ap, ◌∙◌}
use Prim.Native.Nat.{ℕ, ◌+◌, ◌-◌}
use native.Mathlib.Omega.{arith}
use lib.Dec.{eqb}
use borrow.Author.Rules.{rules}
use borrow.Author.Tests.{tests, ne_eqb}
use Rattle.std.proofs.lemmas.Iterator.{YieldsList-from_slice}
use Rattle.tlv.specs.HeadLaws.{body_null}
use Rattle.tlv.specs.Packets.{body_ok}
use Rattle.lists.specs.TestLaws.{every_from_all}
use Rattle.tlv.proofs.Tests.{every_part}
use Rattle.tlv.proofs.packets.body_ok.Goals as goal

pub returns-then-lent-p : goal.returns-then-lent-p
unfolding body_ok
returns-then-lent-p c = rw (ne_eqb _ 0xFF c.if-lent-p.true)

pub returns-else-lent-p : goal.returns-else-lent-p
returns-else-lent-p c =
    let a = c.args in
    let q = c.requires in
    let n = a.p + a.size - (a.p + 4) in
    let m : n ≡ a.size - 4 = omega arith in
    let all = every_from_all _ _ _ (λ x. eqb x 0xFF) c.all.ensures.ran (YieldsList-from_slice _ c.iter.ensures.rest) (λ x q k. search (rules, tests)) (λ x q k. search (rules, tests)) in
    body_null _ a.p n (m ∙ ap (λ (k : ℕ). k - 4) q.1) c.if-lent-p.false c.all.result (every_part (λ x. eqb x 0xFF) a.lent.now (a.p + 4) n (omega arith) ∙ all)
