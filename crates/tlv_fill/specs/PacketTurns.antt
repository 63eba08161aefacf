-- The test of the packets, packet by packet.
use Rattle.std.specs.Prelude.{◌≡◌, Bool, ◌&&◌, ◌||◌}
use Rattle.std.proofs.Math.Path.{refl, ap}
use Rattle.std.proofs.Common.{◌∙◌}
use Rattle.std.proofs.Math.Bool.{true, false}
use Prim.Native.Nat.{ℕ, zero, suc, ◌+◌, ◌<◌, ◌≤◌}
use native.Mathlib.Omega.{arith}
use borrow.Author.Tests.{eq-eqb, ne_eqb, le-leb, lt-leb, leb-true}
use Rattle.std.proofs.Math.Dec.{eqb, leb}
use Rattle.tlv.specs.Packets.{head_ok, size_at, body_ok, packets_from}
use Rattle.tlv.specs.PacketLaws.{size_least}

module _ (o : ℕ → ℕ) (L : ℕ) where
  -- one packet
  unfoldable accept_step : ℕ → Bool → Bool
  accept_step h rest = leb (h + 4) L && (head_ok o h && (leb (h + size_at o h) L && (body_ok o h && rest)))

  accept_same : (h : ℕ) (s t : Bool) → (h + size_at o h ≤ L → s ≡ t) → accept_step h s ≡ accept_step h t
  unfolding accept_step
  accept_same h s t f = go (leb (h + size_at o h) L) refl
    where
      go : (x : Bool) → leb (h + size_at o h) L ≡ x → (leb (h + 4) L && (head_ok o h && (x && (body_ok o h && s)))) ≡ (leb (h + 4) L && (head_ok o h && (x && (body_ok o h && t))))
      go true e = rw (f (leb-true (h + size_at o h) L e))
      go false e = refl

  -- any number of packets that is enough
  accept_enough : (f g h : ℕ) → h ≤ L → L ≤ h + f → L ≤ h + g → packets_from o L f h ≡ packets_from o L g h
  unfolding packets_from accept_step
  accept_enough zero zero h l a b = refl
  accept_enough zero (suc g) h l a b = let e : h ≡ L = omega arith in rw (eq-eqb h L e)
  accept_enough (suc f) zero h l a b = let e : h ≡ L = omega arith in rw (eq-eqb h L e)
  accept_enough (suc f) (suc g) h l a b =
      let four = size_least o h in
      ap (λ (t : Bool). eqb h L || t)
      (accept_same h _ _ (λ m. accept_enough f g (h + size_at o h) m (omega arith) (omega arith)))

  -- as a loop has it
  accept_loop : (h : ℕ) → h < L → packets_from o L L h ≡ accept_step h (packets_from o L L (h + size_at o h))
  unfolding packets_from accept_step
  accept_loop h l =
      accept_enough L (suc L) h (omega arith) (omega arith) (omega arith)
      ∙ rw (ne_eqb h L (omega arith))

  pub accept_end : (h : ℕ) → h ≡ L → packets_from o L L h ≡ true
  unfolding packets_from
  accept_end h e = go L refl
    where
      go : (f : ℕ) → f ≡ f → packets_from o L f h ≡ true
      go zero d = eq-eqb h L e
      go (suc f) d = rw (eq-eqb h L e)

  pub accept_short : (h : ℕ) → h < L → L < h + 4 → packets_from o L L h ≡ false
  unfolding accept_step
  accept_short h l m = accept_loop h l ∙ rw (lt-leb (h + 4) L m)

  pub accept_wrong : (h : ℕ) → h < L → h + 4 ≤ L → head_ok o h ≡ false → packets_from o L L h ≡ false
  unfolding accept_step
  accept_wrong h l m e = accept_loop h l ∙ rw (le-leb (h + 4) L m, e)

  pub accept_past : (h : ℕ) → h < L → h + 4 ≤ L → head_ok o h ≡ true → L < h + size_at o h → packets_from o L L h ≡ false
  unfolding accept_step
  accept_past h l m e k = accept_loop h l ∙ rw (le-leb (h + 4) L m, e, lt-leb (h + size_at o h) L k)

  pub accept_body : (h : ℕ) → h < L → h + 4 ≤ L → head_ok o h ≡ true → h + size_at o h ≤ L → body_ok o h ≡ false → packets_from o L L h ≡ false
  unfolding accept_step
  accept_body h l m e k b = accept_loop h l ∙ rw (le-leb (h + 4) L m, e, le-leb (h + size_at o h) L k, b)

  pub accept_more : (h : ℕ) → h < L → h + 4 ≤ L → head_ok o h ≡ true → h + size_at o h ≤ L → body_ok o h ≡ true → packets_from o L L h ≡ packets_from o L L (h + size_at o h)
  unfolding accept_step
  accept_more h l m e k b = accept_loop h l ∙ rw (le-leb (h + 4) L m, e, le-leb (h + size_at o h) L k, b)
