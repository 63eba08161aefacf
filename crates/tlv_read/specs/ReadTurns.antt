-- The reading's loop: the area holds what was written, and the reading from p on is left.
use Rattle.std.specs.Prelude.{◌≡◌, refl, Bool, true, false, ℕ, ◌+◌, ◌-◌, ◌*◌, ◌<◌, ◌≤◌}
use Rattle.std.proofs.Math.Path.{sym, ap, ap₂}
use Rattle.std.proofs.Common.{◌∙◌, arith}
use mathlib.Core.List.{List, [], ◌++◌, append-nil, append_assoc}
use Rattle.std.proofs.Math.ListN.{length, take, drop, take-append-drop}
use Rattle.std.proofs.Math.Seq.{length-take-le, drop-drop}
use Rattle.lists.specs.Parts.{part, put}
use Rattle.lists.specs.PartLaws.{take_put_end, drop_put, length_put}
use Rattle.lists.specs.CountLaws.{length_table}
use Rattle.tlv.specs.Packets.{octets, run}
use Rattle.tlv.specs.Read.{on, step, Reading, after, read}
use Rattle.tlv.specs.ReadForward.{Inside, Forward, forward, read_enough, read_loop}
use Rattle.tlv.specs.SentLaws.{part_run}
use Rattle.tlv_read.specs.Needs.{ReadNeeds, ReadIs, moved}

module _ (D n : ℕ) (lost begins slots : List ℕ) (from : ℕ) where
  unfoldable pub goal : Reading
  goal = read D n lost begins (octets slots) (D * n) from

  unfoldable pub left : ℕ → Reading
  left p = read D n lost begins (octets slots) (D * n - p) p

  pub record Turn (found : List ℕ) (p w : ℕ) (area : List ℕ) : Type 0 where
    pub low : w ≤ p
    pub within : p ≤ D * n
    pub same : length area ≡ length found
    pub done : goal.written ≡ take w area ++ (left p).written
    pub kept : drop w area ≡ drop w found
    pub last : goal.unfinished ≡ (left p).unfinished

  -- what a step that goes on has: where the octets come from, and where they go
  pub record Moves (area : List ℕ) (p w at size : ℕ) : Type 0 where
    pub on : p < at
    pub within : at ≤ D * n
    pub fits : size ≤ at - p
    pub from_end : p + size ≤ length slots
    pub to_end : w + size ≤ length area

  module _ (found : List ℕ) (needs : ReadNeeds D n slots lost begins from found) where
    pos : 0 < D
    pos = needs.lent.reported.marked.some

    inside : Inside D n begins
    inside = needs.lent.reported.inside

    pub turn_start : Turn found from 0 found
    unfolding goal left
    turn_start =
        let w = needs.lent.within in
        let e = read_enough D n pos lost begins inside (octets slots) (D * n) (D * n - from) from w (omega arith) (omega arith) in
        record { low = omega arith; within = w; same = refl; done = ap (λ (r : Reading). r.written) e; kept = refl; last = ap (λ (r : Reading). r.unfinished) e }

    module _ (p w : ℕ) (area : List ℕ) (t : Turn found p w area) (at size : ℕ) where
      stepped : (ends : Bool) → moved (octets slots) p ends at size ≡ step D n lost begins (octets slots) p
          → left p ≡ after left (moved (octets slots) p ends at size)
      unfolding left
      stepped ends h = read_loop D n pos lost begins inside (octets slots) p t.within ∙ ap (after left) (sym h)

      pub turn_end : (ends : Bool) → ends ≡ true → moved (octets slots) p ends at size ≡ step D n lost begins (octets slots) p → ReadIs goal (record { number = 0; written = w; unfinished = at }) found area
      unfolding moved
      turn_end ends e h =
          let l = stepped ends h in
          let r : left p ≡ record { written = []; unfinished = at } = rw e at l in
          let within = t.within in
          let low = t.low in
          let same = t.same in
          let a = needs.place in
          let b = needs.lent.long in
          let d : goal.written ≡ take w area = t.done ∙ ap (λ (x : Reading). take w area ++ x.written) r ∙ append-nil (take w area) in
          let count : w ≡ length goal.written = sym (ap length d ∙ length-take-le w area (omega arith)) in
          let last : at ≡ goal.unfinished = sym (t.last ∙ ap (λ (x : Reading). x.unfinished) r) in
          record {
            answer = ap₂ (λ (x y : ℕ). record { number = 0; written = x; unfinished = y }) count last;
            octets =
                sym (ap₂ (λ (x y : List ℕ). x ++ y) d (sym t.kept) ∙ take-append-drop w area)
                ∙ ap (λ (x : ℕ). goal.written ++ drop x found) count;
          }

      pub turn_moves : (ends : Bool) → ends ≡ false → moved (octets slots) p ends at size ≡ step D n lost begins (octets slots) p → Moves area p w at size
      unfolding moved
      turn_moves ends e h =
          let f : Forward (D * n) p (moved (octets slots) p ends at size) = rw h (forward D n pos lost begins inside (octets slots) p t.within) in
          let g : Forward (D * n) p (on (run (octets slots) p size) at) = rw e at f in
          let fits : size ≤ at - p = omega (arith, g.2, length_table size (λ i. octets slots (p + i))) in
          let long = needs.lent.long in
          let low = t.low in
          let same = t.same in
          let place = needs.place in
          record { on = g.0; within = g.1; fits = fits; from_end = omega (arith, g.0, g.1); to_end = omega (arith, g.0, g.1) }

      pub turn_next : (ends : Bool) → ends ≡ false → moved (octets slots) p ends at size ≡ step D n lost begins (octets slots) p
          → (ys next : List ℕ) → ys ≡ part p (p + size) slots → next ≡ put w ys area → Turn found at (w + size) next
      unfolding moved
      turn_next ends e h ys next y z =
          let m = turn_moves ends e h in
          let within = t.within in
          let low = t.low in
          let same = t.same in
          let a = needs.place in
          let b = needs.lent.long in
          let u = m.on in
          let v = m.within in
          let f = m.fits in
          let q : ys ≡ run (octets slots) p size = y ∙ part_run p size slots (omega arith) in
          let k : length ys ≡ size = ap length q ∙ length_table size (λ i. octets slots (p + i)) in
          let l = stepped ends h in
          let r : left p ≡ record { written = run (octets slots) p size ++ (left at).written; unfinished = (left at).unfinished } = rw e at l in
          let tk : take (w + size) next ≡ take w area ++ ys = rw (z, ← k) (take_put_end w ys area (omega arith)) in
          let dr : drop (w + size) next ≡ drop (w + size) area = rw (z, ← k) (drop_put w ys area (omega arith)) in
          record {
            low = omega arith;
            within = v;
            same = ap length z ∙ length_put w ys area (omega arith) ∙ same;
            done =
                t.done
                ∙ ap (λ (x : Reading). take w area ++ x.written) r
                ∙ ap (λ (x : List ℕ). take w area ++ (x ++ (left at).written)) (sym q)
                ∙ sym (append_assoc (take w area) ys (left at).written)
                ∙ ap (λ (x : List ℕ). x ++ (left at).written) (sym tk);
            kept = dr ∙ sym (drop-drop size w area) ∙ ap (drop size) t.kept ∙ drop-drop size w found;
            last = t.last ∙ ap (λ (x : Reading). x.unfinished) r;
          }
