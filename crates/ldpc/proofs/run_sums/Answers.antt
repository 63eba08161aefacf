-- `ldpc::run_sums`: the sums passed are running sums; the last one is carried on, and the place is that of the position.
use mathlib.Core.Path.{◌≡◌, sym, ap, ◌∙◌}
use mathlib.Core.List.{List}
use Prim.Native.Nat.{ℕ, ◌+◌, ◌*◌, ◌%◌, ◌<◌}
use native.Mathlib.Nat.{mul-add}
use native.Mathlib.Decide.{ℕ_discrete}
use native.Mathlib.Omega.{arith}
use lib.ListN.{get_or, set, length-set}
use lib.Seq.{get_or-set_same, get_or-set_other}
use Rattle.lists.specs.Count.{sum}
use Rattle.lists.specs.CountLaws.{sum_none, table_is}
use Rattle.ldpc.specs.Parity.{running}
use Rattle.ldpc.proofs.ParityLaws.{running_sum}
use Rattle.ldpc.specs.Columns.{across, sum_at}
use Rattle.ldpc.proofs.ColumnLaws.{across_at, across_below}
use Rattle.ldpc.proofs.AddedLaws.{carry_more}
use Rattle.ldpc.proofs.run_sums.Invariants.{Run}
use Rattle.ldpc.proofs.run_sums.Goals as goal

-- one position more
run_more : (q : ℕ) (columns sums : List ℕ) (last position x : ℕ) → Run q columns sums last position → position < 374 * q → x ≡ sum_at q columns position
    → Run q columns (set sums position ((last + x) % 2)) ((last + x) % 2) (position + 1)
run_more q columns sums last position x r h e = record { same = length-set sums position v ∙ r.same; done = λ k l. go k l (ℕ_discrete k position); carried = w }
  where
    v : ℕ
    v = (last + x) % 2

    w : (last + x) % 2 ≡ sum (position + 1) (sum_at q columns) % 2
    w = carry_more last x (sum_at q columns) position r.carried (ap (λ (n : ℕ). n % 2) e)

    go : (k : ℕ) → k < position + 1 → Dec (k ≡ position) → get_or (set sums position v) k 0 ≡ running (sum_at q columns) k
    go k l (yes i) = rw (i, get_or-set_same sums position v 0 (omega (arith, r.same))) (w ∙ sym (running_sum (sum_at q columns) position))
    go k l (no i) = get_or-set_other sums position k v 0 i ∙ r.done k (omega arith)

-- the position is one of the sums
here : (q j c p : ℕ) → p ≡ q * j + c → j < 374 → c < q → p < 374 * q
here q j c p e h l = rw e (across_below q j c h l)

pub loop-j-init : goal.loop-j-init
loop-j-init c =
    let f = sum_at c.args.q c.args.columns.now in
    (record { same = c.requires.room; done = λ k h. absurd (omega arith); carried = omega (arith, sum_none f) }, omega arith)

pub loop-init : goal.loop-init
loop-init c = record { run = c.loop-j.invariant.0; reached = omega (arith, c.loop-j.invariant.1); stands = omega arith }

pub bounds-columns-place : goal.bounds-columns-place
bounds-columns-place c = omega (arith, c.loop.invariant.stands, c.requires.places)

pub overflow_add-last : goal.overflow_add-last
overflow_add-last c = omega (arith, c.loop.invariant.run.carried, c.from.ensures)

pub bounds-sums-position : goal.bounds-sums-position
bounds-sums-position c = omega (arith, here c.args.q c.loop-j.j c.loop.counter c.loop.position c.loop.invariant.reached c.loop-j-test.true c.loop-test.true, c.loop.invariant.run.same)

pub overflow_add-position : goal.overflow_add-position
overflow_add-position c = omega (arith, here c.args.q c.loop-j.j c.loop.counter c.loop.position c.loop.invariant.reached c.loop-j-test.true c.loop-test.true)

pub overflow_add-place : goal.overflow_add-place
overflow_add-place c = omega (arith, c.loop.invariant.stands)

pub loop-preserved : goal.loop-preserved
loop-preserved c =
    let l = c.loop in
    let i = l.invariant in
    let q = c.args.q in
    let x = c.args.columns.now in
    let p : across 374 q l.position ≡ l.place = rw (i.reached, i.stands) (across_at 374 q c.loop-j.j l.counter c.loop-test.true) in
    record {
      run = run_more q x l.sums l.last l.position c.from.result i.run (here q c.loop-j.j l.counter l.position i.reached c.loop-j-test.true c.loop-test.true) (c.from.ensures ∙ ap (λ (n : ℕ). get_or x n 0) (sym p));
      reached = omega (arith, i.reached);
      stands = omega (arith, i.stands);
    }

pub loop-j-preserved : goal.loop-j-preserved
loop-j-preserved c = (c.loop.invariant.run, omega (arith, c.loop.invariant.reached, mul-add c.args.q c.loop-j.j 1))

pub returns : goal.returns
returns c =
    let l = c.loop-j in
    let q = c.args.q in
    let e : l.j ≡ 374 = omega arith in
    let p : l.position ≡ 374 * q = l.invariant.1 ∙ rw e (omega arith) in
    table_is (374 * q) _ l.sums l.invariant.0.same (λ k h. l.invariant.0.done k (omega arith))
