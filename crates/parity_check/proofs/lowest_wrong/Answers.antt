-- `parity_check::lowest_wrong`: in the first rows the columns have the sums of the rows and addresses passed; in the
-- others the running sum was right at every position passed.
use mathlib.Core.Bool.{true}
use mathlib.Core.Path.{◌≡◌, refl, sym, ap, ◌∙◌}
use mathlib.Core.List.{List}
use Prim.Native.Nat.{ℕ, ◌+◌, ◌*◌, ◌-◌, ◌<◌, ◌≤◌, min}
use native.Mathlib.Omega.{arith}
use lib.ListN.{length, get_or, replicate, drop}
use Rattle.std.proofs.Common.{get_or-take, get_or-drop, length-take}
use Rattle.lists.specs.Parts.{part}
use Rattle.ldpc.proofs.RowLaws.{row_below}
use borrow.Author.Rules.{rules}
use Rattle.lists.specs.PartLaws.{length_part}
use Rattle.parity_table.specs.Tables.{positions, row_start, table_ok}
use Rattle.parity_table.specs.TableLaws.{Row, row_start_none, row_start_more, row_at}
use Rattle.ldpc.specs.Parity.{spacing}
use Rattle.ldpc.specs.Stepping.{times_stepped}
use Rattle.ldpc.proofs.SteppedParityLaws.{row_stepped_none, row_stepped_more, times_stepped_none}
use Rattle.ldpc.specs.Columns.{across}
use Rattle.ldpc.proofs.ColumnLaws.{place_below}
use Rattle.ldpc.specs.Needs.{Added, AddedBySteps}
use Rattle.ldpc.proofs.AddedLaws.{added_none, added_then}
use Rattle.parity_check.specs.CheckLaws.{lowest_wrong_is}
use Rattle.parity_check.proofs.Passing.{times_stepped_next, added_rows, passed_none, parity_at, passed_more}
use Rattle.parity_check.proofs.lowest_wrong.Goals as goal

-- the row at s, before the last of the rows with addresses
row : (rows r s : ℕ) (table : List ℕ) → table_ok rows table ≡ true → r < rows → s ≡ row_start table (min r rows) → Row (positions rows) table s
row rows r s table ok h b = let e : min r rows ≡ r = omega arith in row_at rows table ok r s h (b ∙ ap (row_start table) e)

-- past the rows with addresses, every bit is added to the columns
full : (rows r : ℕ) (table bits found sums zeros : List ℕ) → zeros ≡ replicate (length found) 0 → length found ≡ positions rows → rows ≤ r
    → Added zeros sums (λ n. times_stepped (spacing rows) table bits (min r rows) (across (spacing rows) 374 n))
    → AddedBySteps rows table bits (replicate (positions rows) 0) sums
full rows r table bits found sums zeros z m h a =
    let e : min r rows ≡ rows = omega arith in
    added_rows _ _ sums rows table bits (z ∙ ap (λ (n : ℕ). replicate n 0) m) e a

-- an element of a part
part_at : (a e i : ℕ) (t : List ℕ) → i < length (part a e t) → get_or (part a e t) i 0 ≡ get_or t (a + i) 0
part_at a e i t h = get_or-take (e - a) (drop a t) i 0 (omega (arith, length-take (e - a) (drop a t))) ∙ get_or-drop a t i 0

pub rows-init : goal.rows-init
rows-init c =
    let s = c in
    let a = s.args in
    let z : min 0 a.rows ≡ 0 = omega arith in
    record {
      start = rw z (sym (row_start_none a.table.now));
      adding = added_none _ _ (λ n. rw z (times_stepped_none (spacing a.rows) a.table.now a.bits.now (across (spacing a.rows) 374 n)));
      reached = omega arith;
      passed = passed_none a.rows a.table.now a.bits.now a.received.now (omega (arith, s.requires.ready.rate.few));
    }

pub offset_bounds-table-s : goal.offset_bounds-table-s
offset_bounds-table-s c = let a = c.args in omega (arith, row a.rows c.rows.r c.rows.s a.table.now c.requires.ready.ok c.if-r-rows.true c.rows.invariant.start)

pub bounds-table-s : goal.bounds-table-s
bounds-table-s c = let a = c.args in omega (arith, row a.rows c.rows.r c.rows.s a.table.now c.requires.ready.ok c.if-r-rows.true c.rows.invariant.start)

pub loop-address-init : goal.loop-address-init
loop-address-init c =
    let a = c.args in
    added_none _ _ (λ n. row_stepped_none (spacing a.rows) a.table.now a.bits.now (c.rows.s + 1) (374 * c.rows.r) (across (spacing a.rows) 374 n))

pub overflow_add-from : goal.overflow_add-from
overflow_add-from c = let a = c.args in omega (arith, row a.rows c.rows.r c.rows.s a.table.now c.requires.ready.ok c.if-r-rows.true c.rows.invariant.start)

pub overflow_add-to : goal.overflow_add-to
overflow_add-to c = let a = c.args in omega (arith, row a.rows c.rows.r c.rows.s a.table.now c.requires.ready.ok c.if-r-rows.true c.rows.invariant.start, c.from.ensures)

pub offset_bounds-table-from : goal.offset_bounds-table-from
offset_bounds-table-from c = let a = c.args in omega (arith, row a.rows c.rows.r c.rows.s a.table.now c.requires.ready.ok c.if-r-rows.true c.rows.invariant.start, c.from.ensures)

pub slice_bounds-address-items-end : goal.slice_bounds-address-items-end
slice_bounds-address-items-end c = let a = c.args in omega (arith, row a.rows c.rows.r c.rows.s a.table.now c.requires.ready.ok c.if-r-rows.true c.rows.invariant.start, c.from.ensures)

pub add_address-requires : goal.add_address-requires
add_address-requires c =
    let a = c.args in
    let b = 374 * c.rows.r in
    let w = row a.rows c.rows.r c.rows.s a.table.now c.requires.ready.ok c.if-r-rows.true c.rows.invariant.start in
    record {
      some = omega (arith, c.requires.ready.rate.few);
      below = rw c.from-in-loop-address.ensures (row_below (positions a.rows) c.rows.s _ _ c.loop-address.address-index a.table.now w (omega arith) (omega (arith, c.from.ensures)) (search rules));
      bits = length_part b (b + 374) a.bits.now (omega (arith, c.requires.ready.long, c.if-r-rows.true)) ∙ omega arith;
      places = c.loop-address.invariant.same ∙ (c.rows.invariant.adding.same ∙ c.fill.auto.self ∙ c.requires.ready.room);
    }

pub loop-address-preserved : goal.loop-address-preserved
loop-address-preserved c =
    let a = c.args in
    let f = c.rows.s + 1 in
    let i = c.loop-address.address-index in
    let e = c.from-in-loop-address.ensures ∙ part_at _ _ i a.table.now (search rules) in
    added_then _ c.loop-address.sums _ _ _ _ c.loop-address.invariant c.add_address.ensures
    (λ n. rw e (row_stepped_more (spacing a.rows) a.table.now a.bits.now f i (374 * c.rows.r) (across (spacing a.rows) 374 n)))

pub rows-preserved-then-r-rows : goal.rows-preserved-then-r-rows
rows-preserved-then-r-rows c =
    let a = c.args in
    let t = a.table.now in
    let n = c.from.ensures in
    let w = row a.rows c.rows.r c.rows.s t c.requires.ready.ok c.if-r-rows.true c.rows.invariant.start in
    let p = length_part (c.rows.s + 1) (c.rows.s + 1 + c.from.result) t (omega (arith, w, n)) in
    let i : c.loop-address.address-index ≡ c.from.result = omega arith in
    let f : min c.rows.r a.rows ≡ c.rows.r = omega arith in
    let g : min (c.rows.r + 1) a.rows ≡ c.rows.r + 1 = omega arith in
    let e : c.rows.s ≡ row_start t c.rows.r = c.rows.invariant.start ∙ ap (row_start t) f in
    record {
      start = rw g (omega (arith, row_start_more t c.rows.r, ap (λ (k : ℕ). get_or t k 0) e));
      adding = added_then _ c.rows.sums _ _ _ _ c.rows.invariant.adding c.loop-address.invariant
          (λ k. times_stepped_next (spacing a.rows) t a.bits.now (across (spacing a.rows) 374 k) c.rows.r c.rows.s _ _ _ _ e f g n i);
      reached = omega (arith, c.rows.invariant.reached);
      passed = c.rows.invariant.passed;
    }

pub loop-init : goal.loop-init
loop-init c = record { reached = omega arith; passed = c.rows.invariant.passed }

pub bounds-sums-place : goal.bounds-sums-place
bounds-sums-place c =
    let h : c.loop.position < positions c.args.rows = omega (arith, c.loop.invariant.reached, c.rows.invariant.reached) in
    let w : c.loop.place < positions c.args.rows = rw c.loop.invariant.passed.stands (place_below (spacing c.args.rows) c.loop.position h) in
    omega (arith, w, c.rows.invariant.adding.same ∙ c.fill.auto.self ∙ c.requires.ready.room)

pub bounds-received-position : goal.bounds-received-position
bounds-received-position c =
    let h : c.loop.position < positions c.args.rows = omega (arith, c.loop.invariant.reached, c.rows.invariant.reached) in
    omega (arith, h, c.requires.all)

pub next_place-place-requires : goal.next_place-place-requires
next_place-place-requires c =
    let h : c.loop.position < positions c.args.rows = omega (arith, c.loop.invariant.reached, c.rows.invariant.reached) in
    let w : c.loop.place < positions c.args.rows = rw c.loop.invariant.passed.stands (place_below (spacing c.args.rows) c.loop.position h) in
    omega (arith, w)

pub loop-preserved : goal.loop-preserved
loop-preserved c =
    let a = c.args in
    let m = full a.rows c.rows.r a.table.now a.bits.now a.sums.now c.rows.sums c.fill.new.self (c.fill.ensures.after (λ y e. e)) c.requires.ready.room c.if-r-rows.false c.rows.invariant.adding in
    let h : c.loop.position < positions c.args.rows = omega (arith, c.loop.invariant.reached, c.rows.invariant.reached) in
    rw c.next_place-place.ensures (record {
      reached = omega (arith, c.loop.invariant.reached);
      passed = passed_more a.rows a.table.now a.bits.now _ c.rows.sums c.requires.ready.ok refl m a.received.now _ c.loop.last c.loop.position c.loop.place c.from-in-loop.result
          (omega arith) c.loop.invariant.passed h c.from-in-loop.ensures (c.if-last-from.false ∙ c.from-in-loop-2.ensures);
    })

pub rows-preserved : goal.rows-preserved
rows-preserved c =
    let a = c.args in
    let e : min c.rows.r a.rows ≡ min (c.rows.r + 1) a.rows = omega arith in
    record {
      start = c.rows.invariant.start ∙ ap (row_start a.table.now) e;
      adding = added_rows _ _ c.rows.sums a.rows a.table.now a.bits.now refl e c.rows.invariant.adding;
      reached = omega (arith, c.loop.invariant.reached, c.rows.invariant.reached);
      passed = c.loop.invariant.passed;
    }

pub returns-after-rows : goal.returns-after-rows
returns-after-rows c =
    let l = c.rows in
    let a = c.args in
    let e : l.position ≡ positions a.rows = omega (arith, l.invariant.reached) in record { value = sym (lowest_wrong_is a.rows a.table.now a.bits.now a.received.now l.position (omega arith) l.invariant.passed.right (λ h. absurd (omega arith))); added_by_steps = full a.rows c.rows.r a.table.now a.bits.now a.sums.now c.rows.sums c.fill.new.self (c.fill.ensures.after (λ y e. e)) c.requires.ready.room (omega (arith, c.requires.ready.rate.few)) c.rows.invariant.adding }

pub returns-then-last-from : goal.returns-then-last-from
returns-then-last-from c =
    let a = c.args in
    let m = full a.rows c.rows.r a.table.now a.bits.now a.sums.now c.rows.sums c.fill.new.self (c.fill.ensures.after (λ y e. e)) c.requires.ready.room c.if-r-rows.false c.rows.invariant.adding in
    let h : c.loop.position < positions c.args.rows = omega (arith, c.loop.invariant.reached, c.rows.invariant.reached) in
    let p = (parity_at a.rows a.table.now a.bits.now _ c.rows.sums c.requires.ready.ok refl m a.received.now c.loop.last c.loop.position c.loop.place c.from-in-loop.result
    c.loop.invariant.passed h c.from-in-loop.ensures).1 in record {
      value = sym (lowest_wrong_is a.rows a.table.now a.bits.now a.received.now c.loop.position (omega arith) c.loop.invariant.passed.right
          (λ _ e. c.if-last-from.true (p ∙ e ∙ sym c.from-in-loop-2.ensures)));
      added_by_steps = m;
    }
