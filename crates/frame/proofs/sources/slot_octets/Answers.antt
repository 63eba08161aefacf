-- `frame::slot_octets`: the place's rate and kind are the definition's.
use mathlib.Core.Path.{◌≡◌, refl, sym, ap, ◌∙◌}
use Rattle.plan.specs.Rates.{rows_of}
use Rattle.plan.proofs.RateLaws.{rate_rows}
use Rattle.plan.proofs.PlanLaws.{accepted, group_values}
use Rattle.plan.specs.Places.{group_at, carries, place_of}
use Rattle.plan.proofs.PlaceLaws.{group_holds}
use Rattle.slot.specs.Slots.{source_octets}
use Rattle.frame.specs.Frames.{rows_of_slot, octets_of_slot}
use Rattle.frame.proofs.sources.slot_octets.Goals as goal

pub source_octets-requires : goal.source_octets-requires
unfolding place_of
source_octets-requires c =
    let p = c.args.plan in
    let a = accepted p c.requires.plan in
    let g = group_holds p c.args.slot a c.requires.low c.requires.high in
    let e : c.rows.result ≡ rows_of_slot p c.args.slot = c.rows.ensures ∙ ap (λ q. rows_of q.rate) c.place_of-place.ensures in
    rw e (rate_rows _ (group_values p (group_at p c.args.slot) a g.group).rate)

pub returns-then-place : goal.returns-then-place
unfolding octets_of_slot place_of
returns-then-place c =
    let p = c.args.plan in
    let e : c.rows.result ≡ rows_of_slot p c.args.slot = c.rows.ensures ∙ ap (λ q. rows_of q.rate) c.place_of-place.ensures in
    let k : c.place_of-place.result.carries ≡ carries p c.args.slot = ap (λ q. q.carries) c.place_of-place.ensures in
    rw (sym k ∙ c.if-place.true) (c.source_octets.ensures ∙ ap source_octets e)

pub returns : goal.returns
unfolding octets_of_slot place_of
returns c =
    let k : c.place_of-place.result.carries ≡ carries c.args.plan c.args.slot = ap (λ q. q.carries) c.place_of-place.ensures in
    rw (sym k ∙ c.if-place.false) refl
