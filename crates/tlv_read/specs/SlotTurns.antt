-- The loops over slots: the first lost one, and the next that reports a beginning.
use Rattle.std.specs.Prelude.{◌≡◌, Bool, not, ◌&&◌, List, ℕ, ◌+◌, ◌-◌, ◌*◌, ◌<◌, ◌≤◌, eqb, leb, ltb, get_or}
use Rattle.std.proofs.Math.Path.{sym}
use Rattle.std.proofs.Math.Bool.{false, and-false}
use Rattle.std.proofs.Math.Nat.{mul-le-mul_left}
use Rattle.std.proofs.Math.Decide.{dec_lt}
use Rattle.std.proofs.Common.{arith}
use borrow.Author.Tests.{lt-ltb, le-ltb, le-leb, lt-leb, eq-eqb, ne_eqb}
use Rattle.lists.specs.CountLaws.{first_is}
use Rattle.tlv.specs.Read.{lost_slot, lost_from, reporting, on_from}

module _ (D n : ℕ) (lost : List ℕ) (s e : ℕ) where
  abbrev pub meets_at : ℕ → Bool
  meets_at k = leb (s) k && (ltb (D * k) e && lost_slot lost k)

  -- no slot before k is met
  pub record Unmet (k : ℕ) : Type 0 where
    pub from : s ≤ k
    pub none : (i : ℕ) → i < k → meets_at i ≡ false

  pub unmet_start : Unmet (s)
  unmet_start = record { from = omega arith; none = λ i l. rw (lt-leb (s) i l) }

  pub unmet_next : (k : ℕ) → (get_or lost k 0 ≡ 1 → ⊥) → Unmet k → Unmet (k + 1)
  unmet_next k h u =
      let f = u.from in
      record { from = omega arith; none = λ i l. go i l (dec_lt i k) }
    where
      go : (i : ℕ) → i < k + 1 → Dec (i < k) → meets_at i ≡ false
      go i l (yes m) = u.none i m
      go i l (no m) =
          let d : i ≡ k = omega arith in
          rw (d, ne_eqb (get_or lost k 0) 1 h, and-false (ltb (D * k) e)) (and-false (leb (s) k))

  pub meets_here : (k : ℕ) → k < n → D * k < e → get_or lost k 0 ≡ 1 → Unmet k → k ≡ lost_from D n lost s e
  unfolding lost_from
  meets_here k l b t u =
      let f = u.from in
      sym (first_is n meets_at k (record { within = omega arith; before = u.none; there = λ _. rw (le-leb (s) k f, lt-ltb (D * k) e b, eq-eqb (get_or lost k 0) 1 t) }))

  pub meets_none : (k : ℕ) → Unmet k → (k < n → e ≤ D * k) → n ≡ lost_from D n lost s e
  unfolding lost_from
  meets_none k u h =
      sym (first_is n meets_at n (record { within = omega arith; before = λ i l. go i l (dec_lt i k); there = λ l. absurd (omega arith) }))
    where
      go : (i : ℕ) → i < n → Dec (i < k) → meets_at i ≡ false
      go i l (yes m) = u.none i m
      go i l (no m) =
          let x : D * k ≤ D * i = mul-le-mul_left D (omega arith) in
          let y = h (omega arith) in
          rw (le-ltb (D * i) e (omega arith)) (and-false (leb (s) i))

module _ (D n : ℕ) (lost begins : List ℕ) (slot : ℕ) where
  abbrev pub reports_at : ℕ → Bool
  reports_at s = leb slot s && (not (lost_slot lost s) && not (eqb (get_or begins s 0) 65535))

  pub record Silent (k : ℕ) : Type 0 where
    pub from : slot ≤ k
    pub none : (i : ℕ) → i < k → reports_at i ≡ false

  pub silent_start : Silent slot
  silent_start = record { from = omega arith; none = λ i l. rw (lt-leb slot i l) }

  silent_step : (k : ℕ) → reports_at k ≡ false → Silent k → Silent (k + 1)
  silent_step k h u =
      let f = u.from in
      record { from = omega arith; none = λ i l. go i l (dec_lt i k) }
    where
      go : (i : ℕ) → i < k + 1 → Dec (i < k) → reports_at i ≡ false
      go i l (yes m) = u.none i m
      go i l (no m) = let d : i ≡ k = omega arith in rw d h

  pub silent_lost : (k : ℕ) → get_or lost k 0 ≡ 1 → Silent k → Silent (k + 1)
  silent_lost k h u = silent_step k (rw (eq-eqb (get_or lost k 0) 1 h) (and-false (leb slot k))) u

  pub silent_none : (k : ℕ) → get_or begins k 0 ≡ 65535 → Silent k → Silent (k + 1)
  silent_none k h u =
      silent_step k (rw (eq-eqb (get_or begins k 0) 65535 h, and-false (not (lost_slot lost k))) (and-false (leb slot k))) u

  pub on_here : (k : ℕ) → k < n → (get_or lost k 0 ≡ 1 → ⊥) → (get_or begins k 0 ≡ 65535 → ⊥) → Silent k → D * k + get_or begins k 0 ≡ on_from D n lost begins slot
  unfolding on_from reporting
  on_here k l x y u =
      let f = u.from in
      let e = first_is n reports_at k (record { within = omega arith; before = u.none; there = λ _. rw (le-leb slot k f, ne_eqb (get_or lost k 0) 1 x, ne_eqb (get_or begins k 0) 65535 y) }) in
      rw (e, lt-ltb k n l)

  pub on_none : (k : ℕ) → n ≤ k → Silent k → D * n ≡ on_from D n lost begins slot
  unfolding on_from reporting
  on_none k l u =
      let e = first_is n reports_at n (record { within = omega arith; before = λ i m. u.none i (omega arith); there = λ m. absurd (omega arith) }) in
      rw (e, le-ltb n n (omega arith))
