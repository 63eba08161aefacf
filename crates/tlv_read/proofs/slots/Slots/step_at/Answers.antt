-- `tlv_read::Slots::step_at`: each way out, by what was found on the way to it.
use mathlib.Core.Path.{refl, sym, ◌∙◌}
use Prim.Native.Nat.{◌/◌}
use native.Mathlib.Omega.{arith}
use Rattle.tlv.specs.Packets.{octets}
use Rattle.tlv.specs.PacketLaws.{size_least}
use Rattle.tlv_read.specs.StepLaws.{step_end, headed, wrong_head, bodied, wrong_body, packet_kept}
use Rattle.tlv_read.proofs.Moved.{instead_of_head, instead_of_body}
use Rattle.tlv_read.proofs.slots.Slots.step_at.Goals as goal

pub returns-then-p-self : goal.returns-then-p-self
returns-then-p-self c = step_end _ _ _ _ _ _ (c.if-p-self.true ∙ c.args.self.lending.long)

pub returns-in-Some : goal.returns-in-Some
returns-in-Some c =
    let a = c.args in
    let s = a.self in
    instead_of_head _ _ _ _ (octets s.octets.now) a.p (λ e. c.if-p-self.false (e ∙ sym s.lending.long)) c.in-Some.instead c.in-Some.ensures

pub returns-then-not-head_ok : goal.returns-then-not-head_ok
returns-then-not-head_ok c =
    let a = c.args in
    let s = a.self in
    let head = headed _ _ _ _ (octets s.octets.now) a.p (λ e. c.if-p-self.false (e ∙ sym s.lending.long)) _ _ _ _ c.in_default.ensures refl in
    rw c.behind.ensures
    (wrong_head _ _ _ _ (octets s.octets.now) a.p (a.p / s.size) refl _ _ _ refl refl refl head (sym c.head_ok.ensures ∙ c.if-not-head_ok.true))

pub returns-in-Some-whole : goal.returns-in-Some-whole
returns-in-Some-whole c =
    let a = c.args in
    let s = a.self in
    let head = headed _ _ _ _ (octets s.octets.now) a.p (λ e. c.if-p-self.false (e ∙ sym s.lending.long)) _ _ _ _ c.in_default.ensures refl in
    instead_of_body _ _ _ _ (octets s.octets.now) a.p head (sym c.head_ok.ensures ∙ c.if-not-head_ok.false) _ c.size_at-size.ensures.0 c.in-Some-whole.instead c.in-Some-whole.ensures

pub body_ok-requires : goal.body_ok-requires
body_ok-requires c =
    let a = c.args in
    let s = a.self in
    let f = c.in_default-whole.ensures.fits refl in
    let z = c.size_at-size.ensures.0 in
    (omega (arith, s.lending.long), z, omega (arith, size_least (octets s.octets.now) a.p))

pub returns-then-not-body_ok : goal.returns-then-not-body_ok
returns-then-not-body_ok c =
    let a = c.args in
    let s = a.self in
    let head = headed _ _ _ _ (octets s.octets.now) a.p (λ e. c.if-p-self.false (e ∙ sym s.lending.long)) _ _ _ _ c.in_default.ensures refl in
    let body = bodied _ _ _ _ (octets s.octets.now) a.p head (sym c.head_ok.ensures ∙ c.if-not-head_ok.false) _ c.size_at-size.ensures.0 _ _ _ _ c.in_default-whole.ensures refl in
    rw c.behind-then-not-body_ok.ensures
    (wrong_body _ _ _ _ (octets s.octets.now) a.p (a.p / s.size) refl _ _ _ refl refl refl body (sym c.body_ok.ensures ∙ c.if-not-body_ok.true))

pub returns : goal.returns
returns c =
    let a = c.args in
    let s = a.self in
    let head = headed _ _ _ _ (octets s.octets.now) a.p (λ e. c.if-p-self.false (e ∙ sym s.lending.long)) _ _ _ _ c.in_default.ensures refl in
    let body = bodied _ _ _ _ (octets s.octets.now) a.p head (sym c.head_ok.ensures ∙ c.if-not-head_ok.false) _ c.size_at-size.ensures.0 _ _ _ _ c.in_default-whole.ensures refl in
    packet_kept _ _ _ _ (octets s.octets.now) a.p body (sym c.body_ok.ensures ∙ c.if-not-body_ok.false) _ _ c.size_at-size.ensures.0 c.kept.ensures
