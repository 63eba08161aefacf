-- `frame_coder::code_slots`: the frame is filled slot by slot, with the state and the place in the source that belong to each.
use mathlib.Core.Path.{◌≡◌, sym, ap, ◌∙◌}
use mathlib.Core.List.{List}
use Prim.Native.Nat.{ℕ, ◌+◌, ◌*◌, ◌-◌, ◌<◌, ◌≤◌}
use native.Mathlib.Omega.{arith}
use borrow.Author.Rules.{rules}
use borrow.Rule.Slice.PartMut.{put_mid}
use lib.ListN.{length, take}
use Rattle.lists.specs.Parts.{part}
use Rattle.lists.specs.FillingLaws.{filling_none, filling_rest, filling_part, filling_all}
use Rattle.plan.specs.declared.Plan.{Plan}
use Rattle.plan.specs.declared.FrameState.{FrameState}
use Rattle.plan.specs.declared.Answer.{Answer}
use Rattle.plan.specs.Sizes.{slot_octets}
use Rattle.plan.specs.States.{opened, zeros}
use Rattle.plan.proofs.StateLaws.{open_sound, answers_state}
use Rattle.frame.specs.Steps.{coded_at, state_after}
use Rattle.frame.specs.Frames.{slot_in, octets_of_slot, source_from, source_in, frame_of}
use Rattle.frame.proofs.FrameLaws.{source_from_none, source_from_more, source_from_mono, first_state, state_more, length_slot_in, length_frame_of, slot_at}
use Rattle.frame.proofs.PlacedLaws.{placed_at}
use Rattle.frame.specs.Needs.{Framed}
use Rattle.frame_coder.specs.Needs.{Coding}
use Rattle.frame_coder.proofs.code.code_slots.Invariants.{Inv}
use Rattle.frame_coder.proofs.code.code_slots.Goals as goal

module _ {p : Plan} {mask start : ℕ} {ts ends source found : List ℕ} (q : Framed p mask start ts ends source found) where
  abbrev coded_area : List ℕ
  coded_area = frame_of p ts mask start source found

  -- no slot is coded yet
  none : {r : Answer} → r ≡ opened p mask start → Inv p mask start ts source found found r.state 0 0
  none e =
      record {
        few = omega arith;
        state_is = ap (λ a. a.state) e ∙ first_state p mask start q.lent.opened;
        from_is = sym (source_from_none p);
        filling = filling_none coded_area found (length_frame_of p ts mask start source found q.lent.frame_long ∙ sym q.lent.frame_long);
      }

  -- one slot more, with n header and data octets
  module _ {area : List ℕ} {s : FrameState} {from k n : ℕ} (i : Inv p mask start ts source found area s from k) (h : k < 120) (e : n ≡ octets_of_slot p (k + 1)) where
    to_is : from + n ≡ source_from p (k + 1)
    to_is = omega (arith, i.from_is, source_from_more p k)

    within : from + n ≤ length source
    within = omega (arith, to_is, source_from_mono p (k + 1) 120 (omega arith), q.lent.source_long)

    source_part : part from (from + n) source ≡ source_in p source k
    source_part = rw (to_is, i.from_is)

    area_part : part (slot_octets * k) (slot_octets * (k + 1)) area ≡ slot_in found k
    area_part = ap (take (slot_octets * (k + 1) - slot_octets * k)) (filling_rest coded_area found (slot_octets * k) area i.filling)

    coding : Coding s ts ends (part from (from + n) source) (part (slot_octets * k) (slot_octets * (k + 1)) area)
    coding =
        rw (i.state_is, source_part, area_part)
        (record {
          placed = placed_at p mask start ts ends source found q k h;
          coded_long = length_slot_in found k q.lent.frame_long h;
        })

    more : {r : FrameState} {ys : List ℕ} → r ≡ state_after s → ys ≡ coded_at s ts (part from (from + n) source) (part (slot_octets * k) (slot_octets * (k + 1)) area)
        → Inv p mask start ts source found (put_mid (slot_octets * k) (slot_octets * (k + 1) - slot_octets * k) area ys) r (from + n) (k + 1)
    more {ys = ys} u v =
        let d : ys ≡ slot_in coded_area k
        = v ∙ rw (i.state_is, source_part, area_part) (sym (slot_at p ts mask start source found q.lent.frame_long k h)) in
        record {
          few = omega arith;
          state_is = u ∙ ap state_after i.state_is ∙ state_more p mask start k;
          from_is = to_is;
          filling = filling_part coded_area found (slot_octets * k) area i.filling (slot_octets * (k + 1)) ys (omega arith) (omega (arith, q.lent.frame_long)) d;
        }

pub loop-k-init : goal.loop-k-init
loop-k-init c = none c.requires (rw c.unwrap-state.ensures at c.open.ensures)

pub unwrap-state-requires : goal.unwrap-state-requires
unfolding opened
unwrap-state-requires c = answers_state zeros _ (ap (λ r. r.number) c.open.ensures ∙ c.requires.lent.opened)

pub slot_octets-requires : goal.slot_octets-requires
slot_octets-requires c =
    let s = c in
    let a = s.args in
    record { plan = (open_sound a.plan a.mask a.start s.requires.lent.opened).plan; low = omega arith; high = omega arith }

pub overflow_add-to : goal.overflow_add-to
overflow_add-to c =
    let l = c.loop-k in
    let k : l.k < 120 = omega arith in
    let h = within c.requires l.invariant k c.slot_octets.ensures in
    search rules

pub slice_bounds-code_place-end : goal.slice_bounds-code_place-end
slice_bounds-code_place-end c =
    within c.requires c.loop-k.invariant (omega arith) c.slot_octets.ensures

pub slice_bounds-code_place-end-in-loop-k : goal.slice_bounds-code_place-end-in-loop-k
slice_bounds-code_place-end-in-loop-k c =
    let l = c.loop-k in
    omega (arith, l.invariant.filling.same, c.requires.lent.frame_long)

pub code_place-state-requires : goal.code_place-state-requires
code_place-state-requires c = coding c.requires c.loop-k.invariant (omega arith) c.slot_octets.ensures

pub loop-k-preserved : goal.loop-k-preserved
loop-k-preserved c = more c.requires c.loop-k.invariant (omega arith) c.slot_octets.ensures c.code_place-state.ensures.value c.code_place-state.ensures.coded_after

pub shape_of-frame : goal.shape_of-frame
shape_of-frame c = c.loop-k.invariant.filling.same

pub returns : goal.returns
returns c =
    let l = c.loop-k in
    filling_all _ _ (slot_octets * l.k) l.frame l.invariant.filling (omega (arith, c.requires.lent.frame_long))
