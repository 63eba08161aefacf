-- Laws of packets in octets by position: two places whose octets agree hold the same packet; the heads of right packets.
use Rattle.std.proofs.Math.Path.{◌≡◌, sym}
use Rattle.std.specs.Prelude.{refl, eqb, leb, ltb}
use Rattle.std.proofs.Common.{ap, ◌∙◌, add-zero}
use mathlib.Core.Bool.{Bool, true, false, not, ◌||◌}
use Prim.Native.Nat.{ℕ, zero, suc, ◌+◌, ◌-◌, ◌<◌, ◌≤◌}
use native.Mathlib.Omega.{arith}
use borrow.Author.Tests.{lt-ltb, le-ltb, ltb-true, eq-eqb, ne_eqb, eqb-true, leb-true}
use Rattle.lists.specs.ChoiceLaws.{and_left, and_right, or_cases}
use Rattle.lists.specs.CountLaws.{every_same}
use Rattle.tlv.specs.Packets.{head_ok, size_at, body_ok, empty_null, packets_from, head_from}

pub size_least : (o : ℕ → ℕ) (p : ℕ) → 4 ≤ size_at o p
unfolding size_at
size_least o p = omega arith

-- the m octets of o from p on are those of u from q on
module _ (o u : ℕ → ℕ) (p q m : ℕ) (same : (k : ℕ) → k < m → o (p + k) ≡ u (q + k)) (four : 4 ≤ m) where
  pub same_first : o p ≡ u q
  same_first = ap o (sym (add-zero p)) ∙ same 0 (omega arith) ∙ ap u (add-zero q)

  pub head_same : head_ok o p ≡ head_ok u q
  unfolding head_ok
  head_same = rw (same_first, same 1 (omega arith))

  pub size_same : size_at o p ≡ size_at u q
  unfolding size_at
  size_same = rw (same 2 (omega arith), same 3 (omega arith))

  pub null_same : empty_null o p ≡ empty_null u q
  unfolding empty_null
  null_same = rw (same 1 (omega arith), size_same)

  pub body_same : size_at o p ≤ m → body_ok o p ≡ body_ok u q
  unfolding body_ok
  body_same h =
      rw (same 1 (omega arith), ← size_same)
      (ap (λ (t : Bool). not (eqb (u (q + 1)) 0xFF) || t)
      (every_same (size_at o p - 4) _ _
      (λ k l.
      let a : p + 4 + k ≡ p + (4 + k) = omega arith in
      let b : q + 4 + k ≡ q + (4 + k) = omega arith in
      rw (a, b, same (4 + k) (omega arith)))))

head_before : (o : ℕ → ℕ) (f h j : ℕ) → j < h → head_from o f h j ≡ false
unfolding head_from
head_before o zero h j l = refl
head_before o (suc f) h j l = rw (ne_eqb h j (omega arith), le-ltb h j (omega arith))

-- between two beginnings there is none
pub head_between : (o : ℕ → ℕ) (f h j i : ℕ) → head_from o f h j ≡ true → j < i → i < j + size_at o j → head_from o f h i ≡ false
unfolding head_from
head_between o zero h j i t a b = refl
head_between o (suc f) h j i t a b =
    let again = head_between o f (h + size_at o h) j i in
    or_cases (eqb h j) _ t
    (λ e.
    let d : h ≡ j = eqb-true h j e in
    rw (ne_eqb h i (omega arith), lt-ltb h i (omega arith)) (head_before o f (h + size_at o h) i (rw d (omega arith))))
    (λ e s.
    let l : h < j = ltb-true h j (and_left (ltb h j) _ s) in
    rw (ne_eqb h i (omega arith), lt-ltb h i (omega arith)) (again (and_right (ltb h j) _ s) a b))

-- what acceptance says of a packet at h
pub record Packet (o : ℕ → ℕ) (L h : ℕ) : Type 0 where
  pub head : head_ok o h ≡ true
  pub within : h + size_at o h ≤ L
  pub body : body_ok o h ≡ true

module _ (o : ℕ → ℕ) (L : ℕ) where
  accept_first : (f h : ℕ) → h < L → packets_from o L (suc f) h ≡ true → Packet o L h × (packets_from o L f (h + size_at o h) ≡ true)
  unfolding packets_from
  accept_first f h l t =
      or_cases (eqb h L) _ t
      (λ e. absurd (let d : h ≡ L = eqb-true h L e in omega arith))
      (λ e s.
      let a = and_right (leb (h + 4) L) _ s in
      let b = and_right (head_ok o h) _ a in
      let d = and_right (leb (h + size_at o h) L) _ b in (
        record { head = and_left (head_ok o h) _ a; within = leb-true (h + size_at o h) L (and_left (leb (h + size_at o h) L) _ b); body = and_left (body_ok o h) _ d },
        and_right (body_ok o h) _ d,
      ))

  -- each packet that begins is right
  pub head_packet : (f h j : ℕ) → packets_from o L f h ≡ true → head_from o f h j ≡ true → j < L → Packet o L j
  unfolding head_from
  head_packet zero h j t s l = absurd (let z : ◌≡◌ {A = Bool} true false = sym s in mathlib.Core.Bool.true≢false z)
  head_packet (suc f) h j t s l =
      let again = head_packet f (h + size_at o h) j in
      or_cases (eqb h j) _ s
      (λ e. let d : h ≡ j = eqb-true h j e in rw d at (accept_first f h (omega arith) t).0)
      (λ e r.
      let k : h < j = ltb-true h j (and_left (ltb h j) _ r) in
      again (accept_first f h (omega arith) t).1 (and_right (ltb h j) _ r) l)

  head_start : (f h : ℕ) → h < L → packets_from o L f h ≡ true → head_from o f h h ≡ true
  unfolding packets_from head_from
  head_start zero h l t = absurd (let d : h ≡ L = eqb-true h L t in omega arith)
  head_start (suc f) h l t = rw (eq-eqb h h refl)

  -- behind each packet begins the next
  pub head_next : (f h j : ℕ) → packets_from o L f h ≡ true → head_from o f h j ≡ true → j + size_at o j < L → head_from o f h (j + size_at o j) ≡ true
  unfolding head_from
  head_next zero h j t s l = absurd (let z : ◌≡◌ {A = Bool} true false = sym s in mathlib.Core.Bool.true≢false z)
  head_next (suc f) h j t s l =
      let again = head_next f (h + size_at o h) j in
      let four = size_least o j in
      or_cases (eqb h j) _ s
      (λ e.
      let d : h ≡ j = eqb-true h j e in
      let r : head_from o f (j + size_at o j) (j + size_at o j) ≡ true = head_start f (j + size_at o j) l (rw d at (accept_first f h (omega arith) t).1) in
      rw (d, ne_eqb j (j + size_at o j) (omega arith), lt-ltb j (j + size_at o j) (omega arith)) r)
      (λ e r.
      let k : h < j = ltb-true h j (and_left (ltb h j) _ r) in
      rw (ne_eqb h (j + size_at o j) (omega arith), lt-ltb h (j + size_at o j) (omega arith))
      (again (accept_first f h (omega arith) t).1 (and_right (ltb h j) _ r) l))
