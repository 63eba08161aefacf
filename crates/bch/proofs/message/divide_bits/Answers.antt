-- `bch::message::divide_bits`: the remainder of the bits passed; whole eights are left.
use Rattle.std.proofs.Common.{◌≡◌, refl, sym, ap, ◌∙◌, ℕ, ◌+◌, ◌%◌, ◌≤◌, ◌++◌, List, arith, rules, length, take, drop, length-append, length-drop, drop_at}
use Rattle.std.proofs.lemmas.List.{take_at, drop-drop}
use Rattle.std.proofs.Math.Seq.{take_all}
use Rattle.lists.specs.RunLaws.{below_take, below_drop}
use Rattle.bits.specs.Digits.{number}
use Rattle.bch.specs.Division.{remainder_of}
use Rattle.bch.specs.Bch.{generator}
use Rattle.bch.proofs.Turns.{eight_more, first_few, few_lt, gathered}
use Rattle.bch.proofs.message.divide_bits.Goals as goal

-- the chunk x is the next eight bits of u, and v what they leave
record Next (u x v : List ℕ) (at : ℕ) : Type 0 where
  long : at + 8 ≤ length u
  bits : x ≡ take 8 (drop at u)
  left : v ≡ drop (at + 8) u

next : (u w x v : List ℕ) (at : ℕ) → at ≤ length u → w ≡ drop at u → w ≡ x ++ v → length x ≡ 8 → Next u x v at
next u w x v at h e d l =
    let f : drop at u ≡ x ++ v = sym e ∙ d in
    record {
      long = omega (arith, ap length f, length-append x v, length-drop at u);
      bits = sym (ap (take 8) f ∙ take_at x v 8 l);
      left = sym (sym (drop-drop 8 at u) ∙ ap (drop 8) f ∙ drop_at x v 8 l);
    }

-- the number that `gather` makes of the chunk
made : (u x v : List ℕ) (at y : ℕ) → Next u x v at → y ≡ number (length x) x → y ≡ number 8 (drop at u)
made u x v at y n e = gathered (drop at u) 8 8 y refl (omega (arith, n.long, length-drop at u)) (rw n.bits at e)

pub advance-rest-requires : goal.advance-rest-requires
advance-rest-requires c =
    let u = c.args.run.now in
    let n = length u % 8 in
    let x = gathered u n n _ refl (omega arith) (rw c.split_at.ensures.front at c.gather.ensures) in
    record { table = c.requires.table; within = rw x (few_lt u n c.requires.bits (omega arith)) }

pub loop-eight-init : goal.loop-eight-init
loop-eight-init c =
    let u = c.args.run.now in
    let n = length u % 8 in
    let x = gathered u n n _ refl (omega arith) (rw c.split_at.ensures.front at c.gather.ensures) in
    record {
      at = n;
      passed = omega arith;
      whole = omega arith;
      by = search rules;
      left = search rules;
      done = first_few u n _ _ c.requires.bits (omega arith) (omega arith) x c.advance-rest.ensures;
    }

pub gather-requires-in-loop-eight : goal.gather-requires-in-loop-eight
gather-requires-in-loop-eight c =
    let u = c.args.run.now in
    let i = c.loop-eight.invariant in
    let s = c.in-Some.ensures.steps.1 in
    let n = next u _ _ _ i.at i.passed i.left s.0 (s.1 ∙ i.by) in
    record { few = omega (arith, s.1, i.by); bits = rw n.bits (below_take 1 8 (drop i.at u) (below_drop 1 i.at u c.requires.bits)) }

pub advance-rest-requires-in-loop-eight : goal.advance-rest-requires-in-loop-eight
advance-rest-requires-in-loop-eight c =
    let u = c.args.run.now in
    let i = c.loop-eight.invariant in
    let s = c.in-Some.ensures.steps.1 in
    let n = next u _ _ _ i.at i.passed i.left s.0 (s.1 ∙ i.by) in
    let x = made u _ _ i.at _ n c.gather-in-loop-eight.ensures in
    record { table = c.requires.table; within = rw x (few_lt (drop i.at u) 8 (below_drop 1 i.at u c.requires.bits) (omega arith)) }

pub loop-eight-preserved : goal.loop-eight-preserved
loop-eight-preserved c =
    let u = c.args.run.now in
    let i = c.loop-eight.invariant in
    let s = c.in-Some.ensures.steps.1 in
    let n = next u _ _ _ i.at i.passed i.left s.0 (s.1 ∙ i.by) in
    let x = made u _ _ i.at _ n c.gather-in-loop-eight.ensures in
    record {
      at = i.at + 8;
      passed = n.long;
      whole = omega (arith, i.whole, n.long);
      by = c.in-Some.ensures.steps.0 ∙ i.by;
      left = n.left;
      done = eight_more u i.at _ _ _ c.requires.bits n.long x i.done c.advance-rest-in-loop-eight.ensures;
    }

pub returns : goal.returns
returns c =
    let i = c.loop-eight.invariant in
    let u = c.args.run.now in
    let s = c.in-None.ensures.steps.1 in
    let n : length u ≤ i.at = omega (arith, ap length i.left, length-drop i.at u, i.by, s.0, i.whole) in
    i.done ∙ ap (remainder_of 192 generator) (take_all i.at u n)
