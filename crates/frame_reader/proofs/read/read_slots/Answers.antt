-- `frame_reader::read::read_slots`: the areas are filled with what the slots passed were read to.
use mathlib.Core.Path.{◌≡◌, sym, ap, ap₂, ◌∙◌}
use mathlib.Core.List.{List}
use Prim.Native.Nat.{ℕ, ◌+◌, ◌*◌, ◌-◌, ◌<◌, ◌≤◌}
use native.Mathlib.Omega.{arith}
use borrow.Author.Rules.{rules}
use borrow.Rule.Slice.PartMut.{put_mid}
use lib.ListN.{length, take, set}
use Rattle.lists.specs.Parts.{part}
use Rattle.lists.specs.FillingLaws.{filling_none, filling_rest, filling_more, filling_part, filling_all}
use Rattle.plan.specs.declared.Plan.{Plan}
use Rattle.plan.specs.declared.FrameState.{FrameState}
use Rattle.plan.specs.Sizes.{slot_octets}
use Rattle.plan.specs.States.{opened, zeros}
use Rattle.plan.proofs.StateLaws.{open_sound, answers_state}
use Rattle.frame.specs.Steps.{answer_at, stuff_at, position_at, read_at, state_after}
use Rattle.frame.specs.Frames.{slot_in, octets_of_slot, source_from, source_in, sources_of}
use Rattle.frame.proofs.FrameLaws.{source_from_none, source_from_more, source_from_mono, first_state, state_more, length_slot_in, length_sources_of, length_answers_of, answer_at_law, length_stuffs_of, stuff_at_law, length_positions_of, position_at_law, source_at}
use Rattle.frame.proofs.PlacedLaws.{placed_at}
use Rattle.frame_reader.specs.Needs.{Reading, Answering}
use Rattle.frame_reader.proofs.read.read_slots.Invariants.{Passed}
use Rattle.frame_reader.proofs.read.read_slots.Goals as goal

-- slot k + 1, with header and data octets before `to`, can be read; then one slot more is
record Turn (p : Plan) (mask start : ℕ) (ts ends frame found asked told named source answers stuff positions : List ℕ) (s : FrameState) (from k to : ℕ) : Type 0 where
  within : to ≤ length source
  slot_within : slot_octets * (k + 1) ≤ length frame
  answer_within : k < length answers
  stuff_within : k < length stuff
  all_positions : length positions ≡ 120
  reading : Reading s ts ends (slot_in frame k) (part from to source)
  more : (v x w : ℕ) (ys : List ℕ) (n : FrameState) → v ≡ answer_at s ts (slot_in frame k) → n ≡ state_after s → x ≡ stuff_at s ts (slot_in frame k) → w ≡ position_at s ts (slot_in frame k) → ys ≡ read_at s ts (slot_in frame k) (part from to source)
      → Passed p mask start ts frame found asked told named (put_mid from (to - from) source ys) (set answers k v) (set stuff k x) (set positions k w) n to (k + 1)

module _ (p : Plan) (mask start : ℕ) (ts ends frame found asked told named : List ℕ) (a : Answering p mask start ts ends found frame asked told named) where
  none_passed : (s : FrameState) → s ≡ (opened p mask start).state → Passed p mask start ts frame found asked told named found asked told named s 0 0
  none_passed s e =
      let l = a.framed.lent in
      record {
        some = omega arith;
        state_is = e ∙ first_state p mask start l.opened;
        from_is = sym (source_from_none p);
        sources = filling_none _ found (length_sources_of p ts mask start frame found l.source_long ∙ sym l.source_long);
        answered = filling_none _ asked (length_answers_of p ts mask start frame ∙ sym a.answers_long);
        stuffed = filling_none _ told (length_stuffs_of p ts mask start frame ∙ sym a.stuff_long);
        positioned = filling_none _ named (length_positions_of p ts mask start frame ∙ sym a.positions_long);
      }

  turn : (source answers stuff positions : List ℕ) (s : FrameState) (from k to : ℕ) → Passed p mask start ts frame found asked told named source answers stuff positions s from k → k < 120 → to ≡ from + octets_of_slot p (k + 1)
      → Turn p mask start ts ends frame found asked told named source answers stuff positions s from k to
  turn source answers stuff positions s from k to q h t =
      let l = a.framed.lent in
      let to_is : to ≡ source_from p (k + 1) = omega (arith, q.from_is, source_from_more p k) in
      let part-is : (area : List ℕ) → part from to area ≡ source_in p area k = λ area. ap₂ (λ (i j : ℕ). part i j area) q.from_is to_is in
      let b : to ≤ length found = omega (arith, l.source_long, source_from_mono p (k + 1) 120 (omega arith)) in
      let as-found : part from to source ≡ source_in p found k = ap (take (to - from)) (filling_rest _ found from source q.sources) ∙ part-is found in
      record {
        within = omega (arith, q.sources.same);
        slot_within = omega (arith, l.frame_long);
        answer_within = omega (arith, q.answered.same, a.answers_long);
        stuff_within = omega (arith, q.stuffed.same, a.stuff_long);
        all_positions = q.positioned.same ∙ a.positions_long;
        reading =
            rw q.state_is
            (record {
              placed = rw as-found (placed_at p mask start ts ends found frame a.framed k h);
              received_long = length_slot_in frame k l.frame_long h;
            });
        more = λ v x w ys n e d i j y.
            record {
              some = omega arith;
              state_is = d ∙ ap state_after q.state_is ∙ state_more p mask start k;
              from_is = to_is;
              sources =
                  filling_part _ found from source q.sources to ys (omega arith) b
                  (y ∙ ap₂ (λ z u. read_at z ts (slot_in frame k) u) q.state_is as-found ∙ sym (part-is (sources_of p ts mask start frame found) ∙ source_at p ts mask start frame found l.source_long k h));
              answered =
                  filling_more _ asked k answers q.answered v (omega (arith, a.answers_long))
                  (e ∙ ap (λ z. answer_at z ts (slot_in frame k)) q.state_is ∙ sym (answer_at_law p ts mask start frame k h));
              stuffed =
                  filling_more _ told k stuff q.stuffed x (omega (arith, a.stuff_long))
                  (i ∙ ap (λ z. stuff_at z ts (slot_in frame k)) q.state_is ∙ sym (stuff_at_law p ts mask start frame k h));
              positioned =
                  filling_more _ named k positions q.positioned w (omega (arith, a.positions_long))
                  (j ∙ ap (λ z. position_at z ts (slot_in frame k)) q.state_is ∙ sym (position_at_law p ts mask start frame k h));
            };
      }

pub unwrap-state-requires : goal.unwrap-state-requires
unfolding opened
unwrap-state-requires c = answers_state zeros _ (ap (λ r. r.number) c.open.ensures ∙ c.requires.framed.lent.opened)

pub loop-k-init : goal.loop-k-init
loop-k-init c =
    let a = c.args in
    none_passed a.plan a.mask a.start a.tables.now a.ends.now a.frame.now a.source.now a.answers.now a.stuff.now a.positions.now c.requires _ (ap (λ r. r.state) (rw c.unwrap-state.ensures at c.open.ensures))

pub slot_octets-requires : goal.slot_octets-requires
slot_octets-requires c = record { plan = (open_sound _ _ _ c.requires.framed.lent.opened).plan; low = omega arith; high = omega arith }

pub overflow_add-to : goal.overflow_add-to
overflow_add-to c =
    let l = c.loop-k in
    let a = c.args in
    let t = turn a.plan a.mask a.start a.tables.now a.ends.now a.frame.now a.source.now a.answers.now a.stuff.now a.positions.now c.requires l.source l.answers l.stuff l.positions l.state l.from l.k _ l.invariant (omega arith) (ap (λ (n : ℕ). l.from + n) c.slot_octets.ensures) in
    search rules

pub slice_bounds-read_place-start : goal.slice_bounds-read_place-start
slice_bounds-read_place-start c =
    let l = c.loop-k in
    let a = c.args in
    let t = turn a.plan a.mask a.start a.tables.now a.ends.now a.frame.now a.source.now a.answers.now a.stuff.now a.positions.now c.requires l.source l.answers l.stuff l.positions l.state l.from l.k _ l.invariant (omega arith) (ap (λ (n : ℕ). l.from + n) c.slot_octets.ensures) in
    search rules

pub slice_bounds-read_place-end : goal.slice_bounds-read_place-end
slice_bounds-read_place-end c =
    let l = c.loop-k in
    let a = c.args in
    let t = turn a.plan a.mask a.start a.tables.now a.ends.now a.frame.now a.source.now a.answers.now a.stuff.now a.positions.now c.requires l.source l.answers l.stuff l.positions l.state l.from l.k _ l.invariant (omega arith) (ap (λ (n : ℕ). l.from + n) c.slot_octets.ensures) in
    search rules

pub slice_bounds-read_place-start-in-loop-k : goal.slice_bounds-read_place-start-in-loop-k
slice_bounds-read_place-start-in-loop-k c =
    let l = c.loop-k in
    let a = c.args in
    let t = turn a.plan a.mask a.start a.tables.now a.ends.now a.frame.now a.source.now a.answers.now a.stuff.now a.positions.now c.requires l.source l.answers l.stuff l.positions l.state l.from l.k _ l.invariant (omega arith) (ap (λ (n : ℕ). l.from + n) c.slot_octets.ensures) in
    search rules

pub slice_bounds-read_place-end-in-loop-k : goal.slice_bounds-read_place-end-in-loop-k
slice_bounds-read_place-end-in-loop-k c =
    let l = c.loop-k in
    let a = c.args in
    let t = turn a.plan a.mask a.start a.tables.now a.ends.now a.frame.now a.source.now a.answers.now a.stuff.now a.positions.now c.requires l.source l.answers l.stuff l.positions l.state l.from l.k _ l.invariant (omega arith) (ap (λ (n : ℕ). l.from + n) c.slot_octets.ensures) in
    search rules

pub read_place-read-requires : goal.read_place-read-requires
read_place-read-requires c =
    let l = c.loop-k in
    let a = c.args in
    let t = turn a.plan a.mask a.start a.tables.now a.ends.now a.frame.now a.source.now a.answers.now a.stuff.now a.positions.now c.requires l.source l.answers l.stuff l.positions l.state l.from l.k _ l.invariant (omega arith) (ap (λ (n : ℕ). l.from + n) c.slot_octets.ensures) in
    t.reading

pub bounds-answers-k : goal.bounds-answers-k
bounds-answers-k c =
    let l = c.loop-k in
    let a = c.args in
    let t = turn a.plan a.mask a.start a.tables.now a.ends.now a.frame.now a.source.now a.answers.now a.stuff.now a.positions.now c.requires l.source l.answers l.stuff l.positions l.state l.from l.k _ l.invariant (omega arith) (ap (λ (n : ℕ). l.from + n) c.slot_octets.ensures) in
    t.answer_within

pub bounds-stuff-k : goal.bounds-stuff-k
bounds-stuff-k c =
    let l = c.loop-k in
    let a = c.args in
    let t = turn a.plan a.mask a.start a.tables.now a.ends.now a.frame.now a.source.now a.answers.now a.stuff.now a.positions.now c.requires l.source l.answers l.stuff l.positions l.state l.from l.k _ l.invariant (omega arith) (ap (λ (n : ℕ). l.from + n) c.slot_octets.ensures) in
    t.stuff_within

pub bounds-positions-k : goal.bounds-positions-k
bounds-positions-k c =
    let l = c.loop-k in
    let a = c.args in
    let t = turn a.plan a.mask a.start a.tables.now a.ends.now a.frame.now a.source.now a.answers.now a.stuff.now a.positions.now c.requires l.source l.answers l.stuff l.positions l.state l.from l.k _ l.invariant (omega arith) (ap (λ (n : ℕ). l.from + n) c.slot_octets.ensures) in
    omega (arith, t.all_positions)

pub loop-k-preserved : goal.loop-k-preserved
loop-k-preserved c =
    let l = c.loop-k in
    let a = c.args in
    let t = turn a.plan a.mask a.start a.tables.now a.ends.now a.frame.now a.source.now a.answers.now a.stuff.now a.positions.now c.requires l.source l.answers l.stuff l.positions l.state l.from l.k _ l.invariant (omega arith) (ap (λ (n : ℕ). l.from + n) c.slot_octets.ensures) in
    let e = c.read_place-read.ensures in
    t.more _ _ _ _ _ e.number_value.0 e.number_value.1 e.number_value.2 e.number_value.3 e.source_after

pub shape_of-source : goal.shape_of-source
shape_of-source c = c.loop-k.invariant.sources.same

pub shape_of-answers : goal.shape_of-answers
shape_of-answers c = c.loop-k.invariant.answered.same

pub shape_of-stuff : goal.shape_of-stuff
shape_of-stuff c = c.loop-k.invariant.stuffed.same

pub shape_of-positions : goal.shape_of-positions
shape_of-positions c = c.loop-k.invariant.positioned.same

pub returns : goal.returns
returns c =
    let l = c.loop-k in
    let q = c.requires in
    let e : l.k ≡ 120 = omega arith in
    let f : l.from ≡ source_from c.args.plan 120 = l.invariant.from_is ∙ ap (source_from c.args.plan) e in
    record {
      source_after = filling_all _ _ l.from l.source l.invariant.sources (omega (arith, q.framed.lent.source_long));
      answers_after = filling_all _ _ l.k l.answers l.invariant.answered (omega (arith, q.answers_long));
      stuff_after = filling_all _ _ l.k l.stuff l.invariant.stuffed (omega (arith, q.stuff_long));
      positions_after = filling_all _ _ l.k l.positions l.invariant.positioned (omega (arith, q.positions_long));
    }
