-- Reading an honest stream with its reports gives what arrives of it.
use Rattle.std.specs.Prelude.{◌≡◌, leb}
use Rattle.std.proofs.Math.Path.{refl, sym, ap}
use Rattle.std.proofs.Common.{◌∙◌}
use mathlib.Core.Bool.{Bool, true, false, not, ◌&&◌}
use mathlib.Core.List.{List, [], ◌++◌, append-nil, append_assoc}
use Prim.Native.Nat.{ℕ, zero, suc, ◌+◌, ◌-◌, ◌*◌, ◌/◌, ◌<◌, ◌≤◌}
use Rattle.std.proofs.Math.Nat.{mul-le-mul_left}
use Rattle.std.proofs.Math.Decide.{dec_lt}
use native.Mathlib.Omega.{arith}
use borrow.Author.Tests.{lt-ltb, le-ltb, ltb-true, ltb-false, le-leb, lt-leb, leb-true, eq-eqb, ne_eqb, eqb-true, eqb-false, not-false}
use Rattle.std.proofs.Math.Dec.{eqb, ltb}
use Rattle.std.proofs.Math.ListN.{get_or}
use Rattle.lists.specs.Choice.{pick}
use Rattle.lists.specs.ChoiceLaws.{and_left, and_right, clash}
use Rattle.lists.specs.Count.{first, joined}
use Rattle.lists.specs.CountLaws.{First, first_first, first_is, joined_none, joined_more, joined_quiet}
use Rattle.tlv.specs.Packets.{size_at, empty_null, run}
use Rattle.tlv.specs.PacketLaws.{size_least}
use Rattle.tlv.specs.Fill.{report}
use Rattle.tlv.specs.Honest.{Honest}
use Rattle.tlv.specs.Read.{lost_slot, meets, reporting, on_from, Step, stop, on, whole, step, Reading, after, read, start}
use Rattle.tlv.specs.Sent.{untouched, cut_at}
use Rattle.tlv.specs.SlotLaws.{slot_low, slot_high, slot_below, slot_from, met, Met, meets_lost}

-- the octets of what begins at i, where it is whole, touches no lost slot and is no empty null
unfoldable pub arrives : ℕ → ℕ → List ℕ → (ℕ → ℕ) → (ℕ → Bool) → ℕ → List ℕ
arrives D n lost o b i =
    pick (untouched D n lost o b i && (leb (i + size_at o i) (D * n) && not (empty_null o i))) (run o i (size_at o i)) []

-- what a slot's report says
pub record Told (D : ℕ) (b : ℕ → Bool) (k r : ℕ) : Type 0 where
  pub none : r ≡ 65535 → (i : ℕ) → i < D → b (D * k + i) ≡ false
  pub inside : (r ≡ 65535 → ⊥) → r < D
  pub begins : (r ≡ 65535 → ⊥) → b (D * k + r) ≡ true
  pub before : (i : ℕ) → i < r → i < D → b (D * k + i) ≡ false

pub report_told : (D : ℕ) → D ≤ 65535 → (b : ℕ → Bool) (k : ℕ) → Told D b k (report D b k)
unfolding report
report_told D small b k = go (first D (λ i. b (D * k + i))) (first_first D _) (ltb (first D (λ i. b (D * k + i))) D) refl
  where
    go : (r : ℕ) → First D (λ i. b (D * k + i)) r → (t : Bool) → ltb r D ≡ t → Told D b k (pick t r 65535)
    go r h true e =
        let l : r < D = ltb-true r D e in
        record { none = λ z. absurd (omega arith); inside = λ z. l; begins = λ z. h.there l; before = λ i m j. h.before i m }
    go r h false e =
        let l : D ≤ r = ltb-false r D e in
        record { none = λ z i m. h.before i (omega arith); inside = λ z. absurd (z refl); begins = λ z. absurd (z refl); before = λ i m j. h.before i (omega arith) }

module _ (D n : ℕ) (pos : 0 < D) (lost begins : List ℕ) (o : ℕ → ℕ) (b : ℕ → Bool) (honest : Honest o b) (told : (k : ℕ) → k < n → Told D b k (get_or begins k 0)) where
  abbrev size : ℕ → ℕ
  size i = size_at o i

  abbrev found : ℕ → List ℕ
  found = arrives D n lost o b

  abbrev cut : ℕ → Bool
  cut = cut_at D n lost o b

  record Quiet (i : ℕ) : Type 0 where
    none : arrives D n lost o b i ≡ []
    uncut : cut_at D n lost o b i ≡ false

  quiet : (i : ℕ) → untouched D n lost o b i ≡ false → Quiet i
  unfolding arrives cut_at
  quiet i h = record { none = rw h; uncut = rw h }

  quiet_none : (i : ℕ) → b i ≡ false → Quiet i
  unfolding untouched
  quiet_none i h = quiet i (rw h)

  -- what begins at i meets the lost slot k
  quiet_lost : (i k : ℕ) → k < n → i / D ≤ k → D * k < i + size_at o i → lost_slot lost k ≡ true → Quiet i
  unfolding untouched
  quiet_lost i k l x y t =
      quiet i (rw (lt-ltb _ n (meets_lost D n lost i (i + size_at o i) k l x y t)) (mathlib.Core.Bool.and-false (b i)))

  -- what is left to read from p on
  record Good (p : ℕ) (r : Reading) : Type 0 where
    rest : joined (D * n) (arrives D n lost o b) ≡ joined p (arrives D n lost o b) ++ r.written
    low : p ≤ r.unfinished
    high : r.unfinished ≤ D * n
    before : (i : ℕ) → p ≤ i → i < r.unfinished → cut_at D n lost o b i ≡ false
    there : r.unfinished < D * n → cut_at D n lost o b r.unfinished ≡ true

  good_skip : (p q : ℕ) (r : Reading) → p ≤ q → ((i : ℕ) → p ≤ i → i < q → Quiet i) → Good q r → Good p r
  good_skip p q r l h g =
      let low = g.low in
      record {
        rest = g.rest ∙ ap (λ (xs : List ℕ). xs ++ r.written) (joined_quiet (arrives D n lost o b) p q l (λ i x y. (h i x y).none));
        low = omega arith;
        high = g.high;
        before = λ i x y. (go i x y low (dec_lt i q));
        there = g.there;
      }
    where
      go : (i : ℕ) → p ≤ i → i < r.unfinished → q ≤ r.unfinished → Dec (i < q) → cut_at D n lost o b i ≡ false
      go i x y z (yes m) = (h i x m).uncut
      go i x y z (no m) = g.before i (omega arith) y

  -- what begins at p was dealt with, and the reading goes on at q
  good_pass : (p q : ℕ) (xs : List ℕ) (r : Reading) → p < q → arrives D n lost o b p ≡ xs → cut_at D n lost o b p ≡ false
      → ((i : ℕ) → p < i → i < q → Quiet i) → Good q r → Good p (record { written = xs ++ r.written; unfinished = r.unfinished })
  good_pass p q xs r l a c h g =
      let k : Good (p + 1) r = good_skip (p + 1) q r (omega arith) (λ i x y. h i (omega arith) y) g in
      let low = k.low in
      record {
        rest =
            k.rest
            ∙ ap (λ (ys : List ℕ). ys ++ r.written) (joined_more p (arrives D n lost o b) ∙ ap (λ (ys : List ℕ). joined p (arrives D n lost o b) ++ ys) a)
            ∙ append_assoc (joined p (arrives D n lost o b)) xs r.written;
        low = omega arith;
        high = k.high;
        before = λ i x y. go k i x y (dec_lt p i);
        there = k.there;
      }
    where
      go : Good (p + 1) r → (i : ℕ) → p ≤ i → i < r.unfinished → Dec (p < i) → cut_at D n lost o b i ≡ false
      go k i x y (yes m) = k.before i (omega arith) y
      go k i x y (no m) = let e : i ≡ p = omega arith in rw e c

  good_done : (p : ℕ) → p ≡ D * n → (u : ℕ) → u ≡ D * n → Good p (record { written = []; unfinished = u })
  good_done p e u d =
      record {
        rest = rw e (sym (append-nil _));
        low = omega arith;
        high = omega arith;
        before = λ i x y. absurd (omega arith);
        there = λ x. absurd (omega arith);
      }

  good_stop : (p : ℕ) → p < D * n → arrives D n lost o b p ≡ [] → cut_at D n lost o b p ≡ true → ((i : ℕ) → p < i → i < D * n → Quiet i)
      → Good p (record { written = []; unfinished = p })
  good_stop p l a c h =
      record {
        rest =
            joined_quiet (arrives D n lost o b) (p + 1) (D * n) (omega arith) (λ i x y. (h i (omega arith) y).none)
            ∙ joined_more p (arrives D n lost o b)
            ∙ ap (λ (ys : List ℕ). joined p (arrives D n lost o b) ++ ys) a;
        low = omega arith;
        high = omega arith;
        before = λ i x y. absurd (omega arith);
        there = λ x. c;
      }

  -- where a reading goes on from slot m on
  record OnFrom (m q : ℕ) : Type 0 where
    within : q ≤ D * n
    from : m ≤ n → D * m ≤ q
    begin : q < D * n → b q ≡ true
    passed : (i : ℕ) → D * m ≤ i → i < q → Quiet i

  reporting_first : (m : ℕ) → First n (λ s. leb m s && (not (lost_slot lost s) && not (eqb (get_or begins s 0) 65535))) (reporting n lost begins m)
  unfolding reporting
  reporting_first m = first_first n _

  -- no beginning in a sound slot that is passed over
  silent : (m i : ℕ) → D * m ≤ i → i < D * n → i / D < reporting n lost begins m → lost_slot lost (i / D) ≡ false → b i ≡ false
  silent m i x y h e =
      let t : ℕ = i / D in
      let f = (reporting_first m).before t h in
      let z : not (eqb (get_or begins t 0) 65535) ≡ false = rw (le-leb m t (slot_from D pos i m x), e) at f in
      let w : get_or begins t 0 ≡ 65535 = eqb-true _ 65535 (not-false _ z) in
      let d : D * t + (i - D * t) ≡ i = omega (arith, slot_low D pos i) in
      rw d at ((told t (slot_below D pos i n y)).none w (i - D * t) (omega (arith, slot_low D pos i, slot_high D pos i)))

  quiet_either : (i : ℕ) → i < D * n → (lost_slot lost (i / D) ≡ false → b i ≡ false) → Quiet i
  quiet_either i l h = go (lost_slot lost (i / D)) refl
    where
      go : (t : Bool) → lost_slot lost (i / D) ≡ t → Quiet i
      go true e = quiet_lost i (i / D) (slot_below D pos i n l) (omega arith) (omega (arith, slot_low D pos i, size_least o i)) e
      go false e = quiet_none i (h e)

  on_from_law : (m : ℕ) → OnFrom m (on_from D n lost begins m)
  unfolding on_from
  on_from_law m = go (ltb (reporting n lost begins m) n) refl
    where
      s : ℕ
      s = reporting n lost begins m

      go : (t : Bool) → ltb (reporting n lost begins m) n ≡ t → OnFrom m (pick t (D * reporting n lost begins m + get_or begins (reporting n lost begins m) 0) (D * n))
      go true e =
          let s : ℕ = reporting n lost begins m in
          let l : s < n = ltb-true s n e in
          let t = (reporting_first m).there l in
          let a : m ≤ s = leb-true m s (and_left (leb m s) _ t) in
          let u = and_right (leb m s) _ t in
          let w : get_or begins s 0 ≡ 65535 → ⊥ = λ z. eqb-false _ 65535 (Rattle.lists.specs.ChoiceLaws.false_of _ (λ y. clash _ (borrow.Author.Tests.not-true _ (and_right (not (lost_slot lost s)) _ u)) y)) z in
          let k = told s l in
          let c : get_or begins s 0 < D = k.inside w in
          let x : D * (s + 1) ≤ D * n = mul-le-mul_left D (omega arith) in
          let y : D * m ≤ D * s = mul-le-mul_left D a in
          record {
            within = omega arith;
            from = λ _. omega arith;
            begin = λ _. k.begins w;
            passed = λ i p q. quiet_either i (omega arith)
                (λ g. within i p q (omega arith) c l g (slot_below D pos i (s + 1) (omega arith)) (dec_lt (i / D) s));
          }
        where
          within : (i : ℕ) → D * m ≤ i → i < D * reporting n lost begins m + get_or begins (reporting n lost begins m) 0 → i < D * n → get_or begins (reporting n lost begins m) 0 < D
              → reporting n lost begins m < n → lost_slot lost (i / D) ≡ false → i / D < reporting n lost begins m + 1 → Dec (i / D < reporting n lost begins m) → b i ≡ false
          within i p q j c l g h (yes v) = silent m i p j v g
          within i p q j c l g h (no v) =
              let s : ℕ = reporting n lost begins m in
              let z : i / D ≡ s = omega arith in
              let low : D * s ≤ i = rw z at (slot_low D pos i) in
              let d : D * s + (i - D * s) ≡ i = omega arith in
              rw d at ((told s l).before (i - D * s) (omega arith) (omega arith))
      go false e =
          let s : ℕ = reporting n lost begins m in
          let l : n ≤ s = ltb-false s n e in
          record {
            within = omega arith;
            from = λ h. mul-le-mul_left D h;
            begin = λ h. absurd (omega arith);
            passed = λ i p q. quiet_either i q (λ g. silent m i p q (omega (arith, slot_below D pos i n q)) g);
          }

  -- what begins at p, and how the reading is known from the positions behind
  module _ (p : ℕ) (l : p < D * n) (t : b p ≡ true) (r : ℕ → Reading) (again : (q : ℕ) → p < q → q ≤ D * n → (q < D * n → b q ≡ true) → Good q (r q)) where
    good_jump : (e : ℕ) → e ≤ p + size_at o p → meets D n lost p e < n → Good p (after r (on [] (on_from D n lost begins (meets D n lost p e + 1))))
    good_jump e h c =
        let k : ℕ = meets D n lost p e in
        let q : ℕ = on_from D n lost begins (k + 1) in
        let w : Met D n lost p e k = met D n lost p e c in
        let g : OnFrom (k + 1) q = on_from_law (k + 1) in
        let f : D * (k + 1) ≤ q = g.from (omega arith) in
        let up : D * (p / D + 1) ≤ D * (k + 1) = mul-le-mul_left D (omega (arith, w.from)) in
        let z : p < q = omega (arith, slot_high D pos p) in
        let a : Quiet p = quiet_lost p k c w.from (omega (arith, w.before)) w.gone in
        good_pass p q [] (r q) z a.none a.uncut (λ i x y. go i x y (dec_lt i (p + size_at o p)) (dec_lt i (D * (k + 1)))) (again q z g.within g.begin)
      where
        go : (i : ℕ) → p < i → i < on_from D n lost begins (meets D n lost p e + 1) → Dec (i < p + size_at o p) → Dec (i < D * (meets D n lost p e + 1)) → Quiet i
        go i x y (yes m) d = quiet_none i ((honest p t).between i x m)
        go i x y (no m) (yes v) =
            let k : ℕ = meets D n lost p e in
            let w : Met D n lost p e k = met D n lost p e c in
            let a : i / D < k + 1 = slot_below D pos i (k + 1) v in
            quiet_lost i k c (omega arith) (omega (arith, w.before)) w.gone
        go i x y (no m) (no v) = (on_from_law (meets D n lost p e + 1)).passed i (omega arith) y

    good_cut : (e : ℕ) → e ≤ p + size_at o p → n ≤ meets D n lost p e → D * n < e → Good p (after r (stop p))
    unfolding arrives cut_at untouched
    good_cut e h c m =
        let d : n ≤ meets D n lost p (p + size_at o p) = past (dec_lt (meets D n lost p (p + size_at o p)) n) in
        good_stop p l
        (rw (t, le-ltb _ n d, lt-leb (p + size_at o p) (D * n) (omega arith)))
        (rw (t, le-ltb _ n d, lt-ltb (D * n) (p + size_at o p) (omega arith)))
        (λ i x y. quiet_none i ((honest p t).between i x (omega arith)))
      where
        past : Dec (meets D n lost p (p + size_at o p) < n) → n ≤ meets D n lost p (p + size_at o p)
        past (yes v) =
            let w = met D n lost p (p + size_at o p) v in
            let k : ℕ = meets D n lost p (p + size_at o p) in
            let z : D * k ≤ D * n = mul-le-mul_left D (omega arith) in
            absurd (let y = meets_lost D n lost p e k v w.from (omega arith) w.gone in omega arith)
        past (no v) = omega arith

    good_whole : (e : ℕ) (s : Step) → e ≤ p + size_at o p → (n ≤ meets D n lost p e → e ≤ D * n → Good p (after r s)) → Good p (after r (whole D n lost begins p e s))
    unfolding whole
    good_whole e s h k = go (ltb (meets D n lost p e) n) (ltb (D * n) e) refl refl
      where
        go : (x y : Bool) → ltb (meets D n lost p e) n ≡ x → ltb (D * n) e ≡ y
            → Good p (after r (pick x (on [] (on_from D n lost begins (meets D n lost p e + 1))) (pick y (stop p) s)))
        go true y u v = good_jump e h (ltb-true _ n u)
        go false true u v = good_cut e h (ltb-false _ n u) (ltb-true (D * n) e v)
        go false false u v = k (ltb-false _ n u) (ltb-false (D * n) e v)

    pick_not : (x : Bool) (u v : List ℕ) → pick (not x) u v ≡ pick x v u
    pick_not true u v = refl
    pick_not false u v = refl

    good_step : Good p (after r (step D n lost begins o p))
    unfolding step arrives cut_at untouched
    good_step =
        let four = size_least o p in
        let h = honest p t in
        rw (ne_eqb p (D * n) (omega arith))
        (good_whole (p + 4) _ (omega arith)
        (λ c m.
        rw h.head
        (good_whole (p + size_at o p) _ (omega arith)
        (λ d k.
        rw h.body
        (good_pass p (p + size_at o p) (pick (empty_null o p) [] (run o p (size_at o p))) (r (p + size_at o p)) (omega arith)
        (rw (t, le-ltb (meets D n lost p (p + size_at o p)) n d, le-leb (p + size_at o p) (D * n) k) (pick_not (empty_null o p) (run o p (size_at o p)) []))
        (rw (t, le-ltb (meets D n lost p (p + size_at o p)) n d, le-ltb (D * n) (p + size_at o p) k))
        (λ i x y. quiet_none i (h.between i x y))
        (again (p + size_at o p) (omega arith) k (λ _. h.next)))))))

  step_end : (p : ℕ) → p ≡ D * n → step D n lost begins o p ≡ stop p
  unfolding step
  step_end p e = rw (eq-eqb p (D * n) e)

  good_end : (r : ℕ → Reading) (p : ℕ) → p ≡ D * n → Good p (after r (step D n lost begins o p))
  good_end r p e = rw (step_end p e) (good_done p e p e)

  good : (f p : ℕ) → p ≤ D * n → D * n ≤ p + f → (p < D * n → b p ≡ true) → Good p (read D n lost begins o f p)
  unfolding read
  good zero p l m t = good_done p (omega arith) (D * n) refl
  good (suc f) p l m t = go (λ q x y z. good f q y (omega arith) z) (dec_lt p (D * n))
    where
      go : ((q : ℕ) → p < q → q ≤ D * n → (q < D * n → b q ≡ true) → Good q (read D n lost begins o f q)) → Dec (p < D * n)
          → Good p (after (read D n lost begins o f) (step D n lost begins o p))
      go again (yes k) = good_step p k (t k) (read D n lost begins o f) again
      go again (no k) = good_end (read D n lost begins o f) p (omega arith)

  good_start : 0 < n → (f : ℕ) → ((f ≡ 65535 → ⊥) → f ≡ get_or begins 0 0) → Good 0 (read D n lost begins o (D * n) (start D n lost begins f))
  unfolding start
  good_start some f h = go (eqb f 65535) refl
    where
      go : (t : Bool) → eqb f 65535 ≡ t → Good 0 (read D n lost begins o (D * n) (pick t (on_from D n lost begins 0) f))
      go true e =
          let g = on_from_law 0 in
          let q : ℕ = on_from D n lost begins 0 in
          good_skip 0 q _ (omega arith) (λ i x y. g.passed i (omega arith) y) (good (D * n) q g.within (omega arith) g.begin)
      go false e =
          let w : f ≡ get_or begins 0 0 = h (eqb-false f 65535 e) in
          let v : get_or begins 0 0 ≡ 65535 → ⊥ = λ z. eqb-false f 65535 e (w ∙ z) in
          let k = told 0 some in
          let l : f < D = rw (← w) at (k.inside v) in
          let m : D * 1 ≤ D * n = mul-le-mul_left D some in
          let z : (i : ℕ) → D * 0 + i ≡ i = λ i. omega arith in
          let t : b f ≡ true = ap b (w ∙ sym (z (get_or begins 0 0))) ∙ k.begins v in
          good_skip 0 f _ (omega arith)
          (λ i x y. quiet_none i (ap b (sym (z i)) ∙ k.before i (omega arith) (omega arith)))
          (good (D * n) f (omega arith) (omega arith) (λ _. t))

  pub read_honest : 0 < n → (f : ℕ) → ((f ≡ 65535 → ⊥) → f ≡ get_or begins 0 0)
      → read D n lost begins o (D * n) (start D n lost begins f)
      ≡ record { written = joined (D * n) (arrives D n lost o b); unfinished = first (D * n) (cut_at D n lost o b) }
  read_honest some f h =
      let g = good_start some f h in
      let r : Reading = read D n lost begins o (D * n) (start D n lost begins f) in
      let w : joined (D * n) (arrives D n lost o b) ≡ r.written = g.rest ∙ ap (λ (xs : List ℕ). xs ++ r.written) (joined_none (arrives D n lost o b)) in
      let u : first (D * n) (cut_at D n lost o b) ≡ r.unfinished
      = first_is (D * n) _ r.unfinished (record { within = g.high; before = λ k l. g.before k (omega arith) l; there = g.there }) in
      same r _ _ w u
    where
      same : (r : Reading) (xs : List ℕ) (k : ℕ) → xs ≡ r.written → k ≡ r.unfinished → r ≡ record { written = xs; unfinished = k }
      same r xs k w u = λ i. record { written = sym w i; unfinished = sym u i }
