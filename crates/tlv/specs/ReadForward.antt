-- Every step of a reading goes on: any number of steps that is enough gives the same reading.
use Rattle.std.specs.Prelude.{◌≡◌, Bool, ◌&&◌, eqb, length}
use Rattle.std.proofs.Math.Path.{refl, sym}
use Rattle.std.proofs.Common.{ap, ◌∙◌}
use Rattle.std.proofs.Math.Bool.{true, false, not}
use mathlib.Core.List.{List, []}
use Prim.Native.Nat.{ℕ, zero, suc, ◌+◌, ◌-◌, ◌*◌, ◌/◌, ◌<◌, ◌≤◌}
use Rattle.std.proofs.Math.Nat.{mul-le-mul_left}
use Rattle.std.proofs.Math.Decide.{dec_lt}
use native.Mathlib.Omega.{arith}
use borrow.Author.Tests.{ltb-true, ltb-false, leb-true, eqb-false, not-true}
use Rattle.std.proofs.Math.Dec.{leb, ltb}
use Rattle.std.proofs.Math.ListN.{get_or}
use Rattle.lists.specs.Choice.{pick}
use Rattle.lists.specs.ChoiceLaws.{and_left, and_right}
use Rattle.lists.specs.CountLaws.{First, first_first, length_table}
use Rattle.tlv.specs.Packets.{head_ok, size_at, body_ok, empty_null, run}
use Rattle.tlv.specs.PacketLaws.{size_least}
use Rattle.tlv.specs.Read.{lost_slot, meets, reporting, on_from, Step, stop, on, whole, wrong, step, Reading, after, read}
use Rattle.tlv.specs.SlotLaws.{slot_high, slot_below, met}

-- a step from p, of T octets, goes on and writes no more than it passes
abbrev pub Forward : ℕ → ℕ → Step → Type 0
Forward T p (stop u) = (p ≤ u) × (u ≤ T)
Forward T p (on xs q) = (p < q) × (q ≤ T) × (length xs ≤ q - p)

-- the reports are inside their slots
abbrev pub Inside : ℕ → ℕ → List ℕ → Type 0
Inside D n begins = (k : ℕ) → k < n → (get_or begins k 0 ≡ 65535 → ⊥) → get_or begins k 0 < D

module _ (D n : ℕ) (pos : 0 < D) (lost begins : List ℕ) (inside : Inside D n begins) where
  pub on_within : (m : ℕ) → m ≤ n → (D * m ≤ on_from D n lost begins m) × (on_from D n lost begins m ≤ D * n)
  unfolding on_from reporting
  on_within m h = go (reporting n lost begins m) (first_first n _) (ltb (reporting n lost begins m) n) refl
    where
      go : (s : ℕ) → First n (λ s. leb m s && (not (lost_slot lost s) && not (eqb (get_or begins s 0) 65535))) s → (t : Bool) → ltb s n ≡ t
          → (D * m ≤ pick t (D * s + get_or begins s 0) (D * n)) × (pick t (D * s + get_or begins s 0) (D * n) ≤ D * n)
      go s f true e =
          let l : s < n = ltb-true s n e in
          let t = f.there l in
          let a : m ≤ s = leb-true m s (and_left (leb m s) _ t) in
          let u = not-true _ (and_right (not (lost_slot lost s)) _ (and_right (leb m s) _ t)) in
          let c : get_or begins s 0 < D = inside s l (eqb-false _ 65535 u) in
          let x : D * (s + 1) ≤ D * n = mul-le-mul_left D (omega arith) in
          let y : D * m ≤ D * s = mul-le-mul_left D a in
          (omega arith, omega arith)
      go s f false e = (mul-le-mul_left D h, omega arith)

  module _ (o : ℕ → ℕ) (p : ℕ) (l : p < D * n) where
    on_forward : (k : ℕ) → p / D ≤ k → k < n → Forward (D * n) p (on [] (on_from D n lost begins (k + 1)))
    on_forward k a b =
        let w = on_within (k + 1) (omega arith) in
        let up : D * (p / D + 1) ≤ D * (k + 1) = mul-le-mul_left D (omega arith) in
        (omega (arith, slot_high D pos p), w.1, omega arith)

    whole_forward : (e : ℕ) (s : Step) → (e ≤ D * n → Forward (D * n) p s) → Forward (D * n) p (whole D n lost begins p e s)
    unfolding whole
    whole_forward e s h = go (ltb (meets D n lost p e) n) (ltb (D * n) e) refl refl
      where
        go : (x y : Bool) → ltb (meets D n lost p e) n ≡ x → ltb (D * n) e ≡ y
            → Forward (D * n) p (pick x (on [] (on_from D n lost begins (meets D n lost p e + 1))) (pick y (stop p) s))
        go true y a b = let c = ltb-true _ n a in on_forward (meets D n lost p e) (met D n lost p e c).from c
        go false true a b = (omega arith, omega arith)
        go false false a b = h (ltb-false (D * n) e b)

    pick_forward : (t : Bool) (s u : Step) → Forward (D * n) p s → Forward (D * n) p u → Forward (D * n) p (pick t s u)
    pick_forward true s u a b = a
    pick_forward false s u a b = b

    wrong_forward : Forward (D * n) p (wrong D n lost begins p)
    unfolding wrong
    wrong_forward = on_forward (p / D) (omega arith) (slot_below D pos p n l)

    kept_short : (t : Bool) → length (pick t [] (run o p (size_at o p))) ≤ size_at o p
    kept_short true = omega arith
    kept_short false = omega (arith, length_table (size_at o p) (λ i. o (p + i)))

    step_forward : Forward (D * n) p (step D n lost begins o p)
    unfolding step
    step_forward =
        let four = size_least o p in
        pick_forward (eqb p (D * n)) _ _ (omega arith, omega arith)
        (whole_forward (p + 4) _
        (λ a. pick_forward (head_ok o p) _ _
        (whole_forward (p + size_at o p) _
        (λ b. pick_forward (body_ok o p) _ _ (omega arith, b, omega (arith, kept_short (empty_null o p))) wrong_forward))
        wrong_forward))

  after_enough : (r v : ℕ → Reading) (p : ℕ) (s : Step) → Forward (D * n) p s → ((q : ℕ) → p < q → q ≤ D * n → r q ≡ v q) → after r s ≡ after v s
  after_enough r v p (stop u) f h = refl
  after_enough r v p (on xs q) f h = rw (h q f.0 f.1)

  module _ (o : ℕ → ℕ) where
    step_end : (p : ℕ) → p ≡ D * n → step D n lost begins o p ≡ stop p
    unfolding step
    step_end p e = rw (borrow.Author.Tests.eq-eqb p (D * n) e)

    pub forward : (p : ℕ) → p ≤ D * n → Forward (D * n) p (step D n lost begins o p)
    forward p h = go (dec_lt p (D * n))
      where
        go : Dec (p < D * n) → Forward (D * n) p (step D n lost begins o p)
        go (yes l) = step_forward o p l
        go (no l) = rw (step_end p (omega arith)) (omega arith, h)

    end_reading : (p : ℕ) → p ≡ D * n → (r : ℕ → Reading) → record { written = []; unfinished = D * n } ≡ after r (step D n lost begins o p)
    unfolding step
    end_reading p e r = rw (borrow.Author.Tests.eq-eqb p (D * n) e) (ap (λ (u : ℕ). record { written = []; unfinished = u }) (sym e))

    -- any number of steps that is enough
    pub read_enough : (f g p : ℕ) → p ≤ D * n → D * n ≤ p + f → D * n ≤ p + g → read D n lost begins o f p ≡ read D n lost begins o g p
    unfolding read
    read_enough zero zero p h a b = refl
    read_enough zero (suc g) p h a b = let e : p ≡ D * n = omega arith in end_reading p e (read D n lost begins o g)
    read_enough (suc f) zero p h a b = let e : p ≡ D * n = omega arith in sym (end_reading p e (read D n lost begins o f))
    read_enough (suc f) (suc g) p h a b =
        after_enough (read D n lost begins o f) (read D n lost begins o g) p (step D n lost begins o p) (forward p h)
        (λ q x y. read_enough f g q y (omega arith) (omega arith))

    once : (p : ℕ) → p ≤ D * n → read D n lost begins o (suc (D * n)) p ≡ after (λ q. read D n lost begins o (D * n - q) q) (step D n lost begins o p)
    unfolding read
    once p h =
        after_enough (read D n lost begins o (D * n)) (λ q. read D n lost begins o (D * n - q) q) p (step D n lost begins o p) (forward p h)
        (λ q x y. read_enough (D * n) (D * n - q) q y (omega arith) (omega arith))

    -- the reading from p on, as a loop has it: one step, and the reading from there on
    pub read_loop : (p : ℕ) → p ≤ D * n → read D n lost begins o (D * n - p) p ≡ after (λ q. read D n lost begins o (D * n - q) q) (step D n lost begins o p)
    read_loop p h = read_enough (D * n - p) (suc (D * n)) p h (omega arith) (omega arith) ∙ once p h
