-- Laws of slots and lost slots, and: a lost slot's octets are never looked at.
use Rattle.std.specs.Prelude.{◌≡◌, Bool, ◌&&◌, eqb, leb}
use Rattle.std.proofs.Math.Path.{refl, ap}
use Rattle.std.proofs.Math.Bool.{true, false}
use mathlib.Core.List.{List, []}
use Prim.Native.Nat.{ℕ, zero, suc, ◌+◌, ◌*◌, ◌/◌, ◌<◌, ◌≤◌}
use Rattle.std.proofs.Common.{mul_comm, div-lt_iff_lt-mul, le-div_iff_mul-le, arith, lt-ltb, ltb-true, ltb-false, le-leb, leb-true}
use Rattle.std.proofs.Math.Nat.{mul-div-le, lt-mul-div-succ}
use Rattle.std.proofs.Math.Decide.{dec_lt}
use Rattle.std.proofs.Math.Dec.{ltb}
use Rattle.lists.specs.Choice.{pick}
use Rattle.lists.specs.ChoiceLaws.{and_left, and_right, clash}
use Rattle.lists.specs.CountLaws.{First, first_first, table_same}
use Rattle.tlv.specs.Packets.{head_ok, size_at, run}
use Rattle.tlv.specs.PacketLaws.{head_same, size_same, null_same, body_same}
use Rattle.tlv.specs.Read.{lost_slot, lost_from, meets, on_from, Step, stop, on, whole, wrong, step, Reading, after, read}

module _ (D : ℕ) (pos : 0 < D) where
  pub slot_low : (i : ℕ) → D * (i / D) ≤ i
  slot_low i = mul-div-le i D

  pub slot_high : (i : ℕ) → i < D * (i / D + 1)
  slot_high i = lt-mul-div-succ i pos

  pub slot_below : (i n : ℕ) → i < D * n → i / D < n
  slot_below i n h = (div-lt_iff_lt-mul pos).1 (rw mul_comm at h)

  pub slot_from : (i k : ℕ) → D * k ≤ i → k ≤ i / D
  slot_from i k h = (le-div_iff_mul-le pos).1 (rw mul_comm at h)

  slot_up : (p i : ℕ) → p ≤ i → p / D ≤ i / D
  slot_up p i h = slot_from i (p / D) (omega (arith, slot_low p))

module _ (D n : ℕ) (lost : List ℕ) where
  pub meets_first : (p e : ℕ) → First n (λ k. leb (p / D) k && (ltb (D * k) e && lost_slot lost k)) (meets D n lost p e)
  unfolding lost_from
  meets_first p e = first_first n _

  -- what the lost slot is that octets p to e meet
  pub record Met (p e k : ℕ) : Type 0 where
    pub from : p / D ≤ k
    pub before : D * k < e
    pub gone : lost_slot lost k ≡ true

  pub met : (p e : ℕ) → meets D n lost p e < n → Met p e (meets D n lost p e)
  met p e h =
      let k : ℕ = meets D n lost p e in
      let t = (meets_first p e).there h in
      let s = and_right (leb (p / D) k) _ t in
      record {
        from = leb-true (p / D) k (and_left (leb (p / D) k) _ t);
        before = ltb-true (D * k) e (and_left (ltb (D * k) e) _ s);
        gone = and_right (ltb (D * k) e) _ s;
      }

  -- slots that are not met are not lost
  pub unmet : (p e k : ℕ) → k < meets D n lost p e → p / D ≤ k → D * k < e → lost_slot lost k ≡ false
  unmet p e k h a b = rw (le-leb (p / D) k a, lt-ltb (D * k) e b) at ((meets_first p e).before k h)

  pub meets_lost : (p e k : ℕ) → k < n → p / D ≤ k → D * k < e → lost_slot lost k ≡ true → meets D n lost p e < n
  meets_lost p e k l a b t = go (dec_lt (meets D n lost p e) n)
    where
      go : Dec (meets D n lost p e < n) → meets D n lost p e < n
      go (yes h) = h
      go (no h) = absurd (clash (lost_slot lost k) (unmet p e k (omega arith) a b) t)

  pub clear : 0 < D → (p e i : ℕ) → n ≤ meets D n lost p e → e ≤ D * n → p ≤ i → i < e → lost_slot lost (i / D) ≡ false
  clear pos p e i c l a b =
      unmet p e (i / D) (omega (arith, slot_below D pos i n (omega arith))) (slot_up D pos p i a) (omega (arith, slot_low D pos i))

pub after_same : (r q : ℕ → Reading) → ((p : ℕ) → r p ≡ q p) → (s : Step) → after r s ≡ after q s
after_same r q h (stop u) = refl
after_same r q h (on xs p) = rw (h p)

-- two readings of octets that agree outside lost slots are the same
module _ (D n : ℕ) (pos : 0 < D) (lost begins : List ℕ) where
  whole_same : (p e : ℕ) (s t : Step) → (n ≤ meets D n lost p e → e ≤ D * n → s ≡ t) → whole D n lost begins p e s ≡ whole D n lost begins p e t
  unfolding whole
  whole_same p e s t h = go (ltb (meets D n lost p e) n) (ltb (D * n) e) refl refl
    where
      go : (x y : Bool) → ltb (meets D n lost p e) n ≡ x → ltb (D * n) e ≡ y
          → pick x (on [] (on_from D n lost begins (meets D n lost p e + 1))) (pick y (stop p) s) ≡ pick x (on [] (on_from D n lost begins (meets D n lost p e + 1))) (pick y (stop p) t)
      go true y a b = refl
      go false true a b = refl
      go false false a b = h (ltb-false _ n a) (ltb-false (D * n) e b)

  module _ (o u : ℕ → ℕ) (agree : (i : ℕ) → i < D * n → lost_slot lost (i / D) ≡ false → o i ≡ u i) where
    step_same : (p : ℕ) → step D n lost begins o p ≡ step D n lost begins u p
    unfolding step
    step_same p =
        ap (λ (s : Step). pick (eqb p (D * n)) (stop p) s)
        (whole_same p (p + 4) _ _
        (λ c l.
        let four : (k : ℕ) → k < 4 → o (p + k) ≡ u (p + k) = λ k m. agree (p + k) (omega arith) (clear D n lost pos p (p + 4) (p + k) c l (omega arith) (omega arith)) in
        rw (head_same o u p p 4 four (omega arith), size_same o u p p 4 four (omega arith), null_same o u p p 4 four (omega arith))
        (ap (λ (s : Step). pick (head_ok u p) s (wrong D n lost begins p))
        (whole_same p (p + size_at u p) _ _
        (λ d m.
        let size : size_at o p ≡ size_at u p = size_same o u p p 4 four (omega arith) in
        let z = Rattle.tlv.specs.PacketLaws.size_least u p in
        let same : (k : ℕ) → k < size_at u p → o (p + k) ≡ u (p + k) = λ k j. agree (p + k) (omega arith) (clear D n lost pos p (p + size_at u p) (p + k) d m (omega arith) (omega arith)) in
        let r : run o p (size_at u p) ≡ run u p (size_at u p) = table_same (size_at u p) _ _ same in
        rw (body_same o u p p (size_at u p) same z (omega arith), r))))))

    pub read_same : (f p : ℕ) → read D n lost begins o f p ≡ read D n lost begins u f p
    unfolding read
    read_same zero p = refl
    read_same (suc f) p = rw (step_same p) (after_same _ _ (read_same f) (step D n lost begins u p))
