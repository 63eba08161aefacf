-- `plan::place_of`: the groups passed end before the slot, so the group at which the loop stops is the first that reaches it.
use mathlib.Core.Path.{◌≡◌, sym, ap}
use Prim.Native.Nat.{ℕ, ◌+◌, ◌-◌, ◌≤◌, ◌<◌}
use native.Mathlib.Decide.{dec_lt}
use native.Mathlib.Omega.{arith}
use borrow.Author.Rules.{rules}
use Rattle.plan.specs.declared.Plan.{Plan}
use Rattle.plan.specs.Plans.{slots_before}
use Rattle.plan.proofs.PlanLaws.{Accepted, accepted, before_none, before_more, before_mono}
use Rattle.plan.specs.Places.{group_at, carries, place_of}
use Rattle.plan.proofs.PlaceLaws.{group_is}
use Rattle.plan.proofs.places.place_of.Invariants.{Inv}
use Rattle.plan.proofs.places.place_of.Goals.{In-loop-end}
use Rattle.plan.proofs.places.place_of.Goals as goal

-- no group of an accepted plan ends behind slot 120
within : (p : Plan) (g : ℕ) → Accepted p → g ≤ p.count → slots_before p g ≤ 120
within p g a h = omega (arith, before_mono p g p.count h, a.total)

-- where a group ends before the slot, another follows
follows : (p : Plan) (slot g passed end : ℕ) → Accepted p → Inv p slot g passed end → slot ≤ 120 → end < slot → g + 1 < p.count
follows p slot g passed end a i h l = go (dec_lt (g + 1) p.count)
  where
    go : Dec (g + 1 < p.count) → g + 1 < p.count
    go (yes w) = w
    go (no w) =
        let e : g + 1 ≡ p.count = omega (arith, i.group) in
        absurd (omega (arith, i.ends, ap (slots_before p) e, a.total))

next : (c : In-loop-end) → c.loop-end.g + 1 < c.args.plan.count
next c =
    let s = c in
    let l = c.loop-end in
    follows s.args.plan s.args.slot l.g l.passed l.end (accepted s.args.plan s.requires.plan) l.invariant s.requires.high c.loop-end-test.true

pub loop-end-init : goal.loop-end-init
loop-end-init c =
    let p = c.args.plan in
    let a = accepted p c.requires.plan in
    let b = before_more p 0 in
    let z = before_none p in
    let w = within p 1 a a.low in
    let e : c.from-end.result ≡ slots_before p 1 = omega arith in
    record { group = a.low; few = a.high; begins = sym z; ends = e; ahead = search rules; long = search rules; small = omega arith }

pub bounds-plan-g : goal.bounds-plan-g
bounds-plan-g c = let n = next c in omega arith

pub loop-end-preserved : goal.loop-end-preserved
loop-end-preserved c =
    let s = c in
    let p = s.args.plan in
    let l = c.loop-end in
    let n = next c.before.before in
    let b = before_more p (l.g + 1) in
    let w = within p (l.g + 1 + 1) (accepted p s.requires.plan) (search rules) in
    let e : l.end + c.from.result ≡ slots_before p (l.g + 1 + 1) = omega arith in
    record { group = n; few = l.invariant.few; begins = l.invariant.ends; ends = e; ahead = search rules; long = search rules; small = omega arith }

pub data_slots-filled-requires : goal.data_slots-filled-requires
data_slots-filled-requires c = omega (arith, c.loop-end.invariant.group, c.loop-end.invariant.few)

pub returns : goal.returns
unfolding place_of carries
returns c =
    let d = c in
    let b = d in
    let s = b in
    let p = s.args.plan in
    let l = b.loop-end in
    let e : group_at p s.args.slot ≡ l.g
    = group_is p l.g s.args.slot (record { group = l.invariant.group; from = omega arith; to = omega arith }) in
    rw (e, ← l.invariant.begins, d.data_slots-filled.ensures, c.from-2.ensures, c.from-3.ensures)
