-- `tlv_fill::begins::mark_begins`: h is the first beginning at or behind the slot's first octet.
use mathlib.Core.Path.{◌≡◌, sym, ap, ◌∙◌}
use mathlib.Core.List.{List}
use Prim.Native.Nat.{ℕ, ◌+◌, ◌-◌, ◌*◌, ◌<◌, ◌≤◌}
use native.Mathlib.Nat.{mul-le-mul_left}
use native.Mathlib.Omega.{arith}
use borrow.Author.Rules.{rules}
use lib.ListN.{length, get_or}
use Rattle.lists.specs.FillingLaws.{filling_none, filling_more}
use Rattle.tlv.specs.Fill.{reports}
use Rattle.tlv.specs.FillLaws.{reports_at_law, length_reports}
use Rattle.tlv_fill.specs.BeginTurns.{Ahead, ahead_start, ahead_later, report_at}
use Rattle.tlv_fill.specs.Needs.{MarkNeeds}
use Rattle.tlv_fill.proofs.begins.mark_begins.Invariants.{Inv, found}
use Rattle.tlv_fill.proofs.begins.mark_begins.Goals as goal

-- slot k is one of the slots, so that no sum wraps
record Within (D : ℕ) (packets : List ℕ) (taken owed start : ℕ) : Type 0 where
  next : start + D < 9223372036854775808
  within : taken ≤ length packets
  few : owed ≤ 3
  low : 16 ≤ D

inside : (D : ℕ) (packets : List ℕ) (taken owed : ℕ) (found begins : List ℕ) (k start h : ℕ) → MarkNeeds D packets taken owed found
    → Inv D packets taken owed found begins k start h → k < length begins → Within D packets taken owed start
inside D packets taken owed found begins k start h n i l =
    let m : D * (k + 1) ≤ D * length found = mul-le-mul_left D (omega (arith, i.filling.same)) in
    let p = i.place in
    record { next = omega (arith, n.room); within = n.within; few = n.few; low = n.low }

pub loop-begin-init : goal.loop-begin-init
loop-begin-init c =
    let a = c.args in
    record {
      place = omega arith;
      ahead = ahead_start _ c.requires.right _;
      filling = filling_none _ _ (length_reports a.size (length a.begins.now) a.packets.now a.taken a.owed);
    }

pub overflow_add-taken : goal.overflow_add-taken
overflow_add-taken c =
    let l = c.loop-begin in
    let w = inside _ _ _ _ _ _ l.begin-index _ _ c.requires l.invariant (search rules) in
    omega (arith, w.next, w.within, c.saturating_sub.ensures)

pub first_begin-h-requires : goal.first_begin-h-requires
first_begin-h-requires c =
    let l = c.loop-begin in
    let w = inside _ _ _ _ _ _ l.begin-index _ _ c.requires l.invariant (search rules) in
    record {
      right = c.requires.right;
      from = rw c.saturating_sub.ensures l.invariant.ahead;
      room = omega (arith, w.next, w.within, w.low, c.saturating_sub.ensures);
    }

pub overflow_sub-rest : goal.overflow_sub-rest
overflow_sub-rest c =
    let l = c.loop-begin in
    let w = inside _ _ _ _ _ _ l.begin-index _ _ c.requires l.invariant (search rules) in
    let f = found _ _ _ _ _ _ w.within (ap (λ (x : ℕ). c.args.taken + x) c.saturating_sub.ensures) c.first_begin-h.ensures.0 c.first_begin-h.ensures.1 in
    omega (arith, f.from)

pub overflow_add-rest : goal.overflow_add-rest
overflow_add-rest c =
    let l = c.loop-begin in
    let w = inside _ _ _ _ _ _ l.begin-index _ _ c.requires l.invariant (search rules) in
    let f = found _ _ _ _ _ _ w.within (ap (λ (x : ℕ). c.args.taken + x) c.saturating_sub.ensures) c.first_begin-h.ensures.0 c.first_begin-h.ensures.1 in
    omega (arith, f.near, w.next, w.few, w.low)

pub overflow_sub-rest-in-loop-begin : goal.overflow_sub-rest-in-loop-begin
overflow_sub-rest-in-loop-begin c =
    let l = c.loop-begin in
    let w = inside _ _ _ _ _ _ l.begin-index _ _ c.requires l.invariant (search rules) in
    let f = found _ _ _ _ _ _ w.within (ap (λ (x : ℕ). c.args.taken + x) c.saturating_sub.ensures) c.first_begin-h.ensures.0 c.first_begin-h.ensures.1 in
    omega (arith, f.from)

pub overflow_add-start : goal.overflow_add-start
overflow_add-start c =
    let l = c.loop-begin in
    let w = inside _ _ _ _ _ _ l.begin-index _ _ c.requires l.invariant (search rules) in
    omega (arith, w.next)

pub loop-begin-preserved : goal.loop-begin-preserved
loop-begin-preserved c =
    let l = c.loop-begin in
    let w = inside _ _ _ _ _ _ l.begin-index _ _ c.requires l.invariant (search rules) in
    let f = found _ _ _ _ _ _ w.within (ap (λ (x : ℕ). c.args.taken + x) c.saturating_sub.ensures) c.first_begin-h.ensures.0 c.first_begin-h.ensures.1 in
    let a = c.args in
    let k = l.begin-index in
    let h = c.first_begin-h.result in
    let p = l.invariant.place in
    let t : a.taken + c.saturating_sub.result ≡ a.taken + (a.size * k - a.owed) = omega (arith, c.saturating_sub.ensures) in
    let g : Ahead a.packets.now (a.taken + (a.size * k - a.owed)) h = rw t at c.first_begin-h.ensures.0 in
    let later : 0 < k → a.owed ≤ a.size * k
    = λ z. let m : a.size * 1 ≤ a.size * k = mul-le-mul_left a.size z in omega (arith, w.few, w.low) in
    let v : c.report_of.result ≡ get_or (reports a.size (length a.begins.now) a.packets.now a.taken a.owed) k 0
    = (rw p at c.report_of.ensures)
    ∙ report_at a.size k a.packets.now a.taken a.owed h later g (omega (arith, f.from))
    ∙ sym (reports_at_law a.size (length a.begins.now) a.packets.now a.taken a.owed k (search rules)) in
    record {
      place = omega arith;
      ahead = ahead_later a.packets.now c.requires.right _ _ h (omega arith) g;
      filling = filling_more _ _ k l.begins l.invariant.filling c.report_of.result (search rules) v;
    }
