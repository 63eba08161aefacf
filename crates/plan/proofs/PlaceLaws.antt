-- Laws of places: every slot of an accepted plan lies in one run, and the place names it.
use Rattle.std.specs.Prelude.{◌≡◌, refl, Bool, true, false, ℕ, zero, suc, ◌+◌, ◌-◌, ◌≤◌, ◌<◌, leb, ltb}
use Rattle.std.proofs.Common.{sym, add-one, arith, le-leb, leb-true, leb-false, lt-ltb, le-ltb, ltb-true, ltb-false}
use Rattle.std.proofs.Math.Decide.{dec_lt}
use Rattle.std.proofs.lemmas.Bool.{lt-leb}
use Rattle.lists.specs.ChoiceLaws.{clash}
use Rattle.lists.specs.Count.{first}
use Rattle.lists.specs.CountLaws.{First, first_is, first_first}
use Rattle.plan.specs.declared.Plan.{Plan}
use Rattle.plan.specs.Plans.{slots_before, data_slots_of, plan_number}
use Rattle.plan.proofs.PlanLaws.{before_none, before_more, before_mono, Accepted, accepted, data_within}
use Rattle.plan.specs.Places.{group_at, carries, run_first, run_last, InRun}

-- group g holds slot s
pub record Holds (p : Plan) (g s : ℕ) : Type 0 where
  pub group : g < p.count
  pub from : slots_before p g < s
  pub to : s ≤ slots_before p (g + 1)

pub group_is : (p : Plan) (g s : ℕ) → Holds p g s → group_at p s ≡ g
unfolding group_at
group_is p g s h =
    first_is p.count (λ k. leb s (slots_before p (k + 1))) g
    (record {
      within = omega (arith, h.group);
      before = λ k l. lt-leb s (slots_before p (k + 1)) (omega (arith, before_mono p (k + 1) g (omega arith), h.from));
      there = λ l. le-leb s (slots_before p (g + 1)) h.to;
    })

-- the group of a slot holds it
pub group_holds : (p : Plan) (s : ℕ) → Accepted p → 1 ≤ s → s ≤ 120 → Holds p (group_at p s) s
unfolding group_at
group_holds p s a l h = go (first p.count test) (first_first p.count test)
  where
    test : ℕ → Bool
    test g = leb s (slots_before p (g + 1))

    low : (g : ℕ) → First p.count test g → slots_before p g < s
    low zero f = omega (arith, before_none p)
    low (suc k) f = rw (← add-one k) (leb-false s (slots_before p (k + 1)) (f.before k (omega arith)))

    inside : (g : ℕ) → First p.count test g → Dec (g < p.count) → g < p.count
    inside g f (yes w) = w
    inside g f (no w) =
        let e : p.count - 1 + 1 ≡ p.count = omega (arith, a.low) in
        let t : test (p.count - 1) ≡ true = le-leb s (slots_before p (p.count - 1 + 1)) (rw e (omega (arith, a.total))) in
        absurd (clash (test (p.count - 1)) (f.before (p.count - 1) (omega (arith, a.low, f.within))) t)

    go : (g : ℕ) → First p.count test g → Holds p g s
    go g f =
        let w = inside g f (dec_lt g p.count) in
        record { group = w; from = low g f; to = leb-true s (slots_before p (g + 1)) (f.there w) }

run_in_law : (p : Plan) (g s : ℕ) → Holds p g s → (b : Bool) → ltb (s - 1 - slots_before p g) (data_slots_of p g) ≡ b → InRun p g b s
unfolding run_first run_last
run_in_law p g s h true e =
    let l = ltb-true (s - 1 - slots_before p g) (data_slots_of p g) e in
    record { from = omega (arith, h.from); to = omega (arith, h.from) }
run_in_law p g s h false e =
    let l = ltb-false (s - 1 - slots_before p g) (data_slots_of p g) e in
    record { from = omega (arith, h.from); to = h.to }

-- every slot lies in the run that its place names
pub runs_cover : (p : Plan) (s : ℕ) → plan_number p ≡ 0 → 1 ≤ s → s ≤ 120 → InRun p (group_at p s) (carries p s) s
unfolding carries
runs_cover p s n l h =
    run_in_law p (group_at p s) s (group_holds p s (accepted p n) l h)
    (ltb (s - 1 - slots_before p (group_at p s)) (data_slots_of p (group_at p s))) refl

run_holds : (p : Plan) (g : ℕ) (b : Bool) (s : ℕ) → Accepted p → g < p.count → InRun p g b s → Holds p g s
unfolding run_first run_last
run_holds p g true s a h r = record { group = h; from = omega (arith, r.from); to = omega (arith, r.to, before_more p g, data_within p g a h) }
run_holds p g false s a h r = record { group = h; from = omega (arith, r.from); to = r.to }

run_kind : (p : Plan) (g : ℕ) (b : Bool) (s : ℕ) → InRun p g b s → b ≡ ltb (s - 1 - slots_before p g) (data_slots_of p g)
unfolding run_first run_last
run_kind p g true s r = sym (lt-ltb (s - 1 - slots_before p g) (data_slots_of p g) (omega (arith, r.from, r.to)))
run_kind p g false s r = sym (le-ltb (s - 1 - slots_before p g) (data_slots_of p g) (omega (arith, r.from)))

-- and in no other
pub runs_once : (p : Plan) (s g : ℕ) (b : Bool) → plan_number p ≡ 0 → g < p.count → InRun p g b s → (g ≡ group_at p s) × (b ≡ carries p s)
unfolding carries
runs_once p s g b n h r =
    let e : group_at p s ≡ g = group_is p g s (run_holds p g b s (accepted p n) h r) in
    (sym e, rw e (run_kind p g b s r))

-- the runs of an accepted plan lie in slots 1 to 120
pub runs_within : (p : Plan) (s g : ℕ) (b : Bool) → plan_number p ≡ 0 → g < p.count → InRun p g b s → (1 ≤ s) × (s ≤ 120)
runs_within p s g b n h r =
    let a = accepted p n in
    let w = run_holds p g b s a h r in
    (omega (arith, w.from), omega (arith, w.to, before_mono p (g + 1) p.count (omega arith), a.total))
