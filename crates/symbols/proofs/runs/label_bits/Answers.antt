-- `symbols::label_bits`: the labels have the bits at the places passed.
use mathlib.Core.Path.{◌≡◌, refl, sym, ap, ◌∙◌}
use Prim.Native.Nat.{ℕ, ◌*◌}
use native.Mathlib.Omega.{arith}
use lib.ListN.{length}
use borrow.Author.Rules.{rules}
use Rattle.lists.specs.CountLaws.{length_table}
use Rattle.symbols.specs.Labels.{labels_of}
use Rattle.symbols.proofs.Turns.{labels_to, to_none, taking, taken, to_all}
use Rattle.symbols.proofs.runs.label_bits.Goals as goal

pub loop-place-init : goal.loop-place-init
loop-place-init c =
    let a = c.args in
    record {
      passed = search rules;
      stride = c.stride-step.ensures;
      same = refl;
      done = c.fill.ensures.after (λ y e. e) ∙ rw c.fill.ensures.len (to_none a.modulation (length a.labels.now) a.leftward a.run.now);
    }

pub take_place-requires : goal.take_place-requires
take_place-requires c =
    let l = c.loop-place in
    let a = c.args in
    let w : length a.run.now ≡ a.modulation * length c.fill.new.self = c.requires.shared.long ∙ ap (λ (k : ℕ). a.modulation * k) (sym c.fill.ensures.len) in
    taking a.modulation _ a.leftward a.run.now l.labels l.place _ _ (search rules) l.invariant.same l.invariant.done c.first_bit-start.ensures l.invariant.stride c.requires.shared.known c.requires.bits w

pub loop-place-preserved : goal.loop-place-preserved
loop-place-preserved c =
    let l = c.loop-place in
    let a = c.args in
    let d = taken a.modulation _ a.leftward a.run.now l.labels l.place _ _ (search rules) l.invariant.same l.invariant.done c.first_bit-start.ensures l.invariant.stride _ c.take_place.ensures in
    record { passed = search rules; stride = l.invariant.stride; same = ap length d ∙ length_table _ _; done = d }

pub returns : goal.returns
returns c =
    let l = c.loop-place in
    let a = c.args in
    let e : l.place ≡ a.modulation = omega arith in
    l.invariant.done
    ∙ ap (labels_to a.modulation _ a.leftward a.run.now) e
    ∙ to_all a.modulation _ a.leftward a.run.now
    ∙ ap (λ (n : ℕ). labels_of a.modulation n a.leftward a.run.now) c.fill.ensures.len
