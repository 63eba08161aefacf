-- Heads and bodies by what their octets are: the ways out of the functions that test them.
use Rattle.std.specs.Prelude.{◌≡◌, Bool, true, false, ℕ, ◌+◌, ◌-◌, ◌*◌}
use Rattle.std.proofs.Common.{sym, ◌∙◌}
use Rattle.std.proofs.Math.Path.{ap}
use borrow.Author.Tests.{eq-eqb, ne_eqb}
use Rattle.std.proofs.Math.Dec.{eqb}
use Rattle.lists.specs.Count.{every}
use Rattle.tlv.specs.Packets.{type_ok, head_ok, size_at, body_ok}

module _ (o : ℕ → ℕ) (p : ℕ) where
  pub body_other : (o (p + 1) ≡ 0xFF → ⊥) → true ≡ body_ok o p
  unfolding body_ok
  body_other h = rw (ne_eqb (o (p + 1)) 0xFF h)

  pub body_null : (n : ℕ) → n ≡ size_at o p - 4 → o (p + 1) ≡ 0xFF → (t : Bool) → every n (λ k. eqb (o (p + 4 + k)) 0xFF) ≡ t → t ≡ body_ok o p
  unfolding body_ok
  body_null n e h t d = rw (eq-eqb (o (p + 1)) 0xFF h) (sym d ∙ ap (λ (m : ℕ). every m (λ k. eqb (o (p + 4 + k)) 0xFF)) e)

  pub size_is : (x y : ℕ) → x ≡ o (p + 2) → y ≡ o (p + 3) → 4 + (256 * x + y) ≡ size_at o p
  unfolding size_at
  size_is x y a b = rw (a, b)

  pub head_not : (o p ≡ 0x7F → ⊥) → false ≡ head_ok o p
  unfolding head_ok
  head_not h = rw (ne_eqb (o p) 0x7F h)

  pub head_type : o p ≡ 0x7F → (t : Bool) → t ≡ type_ok (o (p + 1)) → t ≡ head_ok o p
  unfolding head_ok
  head_type h t e = rw (eq-eqb (o p) 0x7F h) e

module _ (t : ℕ) where
  pub type_1 : t ≡ 0x01 → true ≡ type_ok t
  unfolding type_ok
  type_1 a = rw (eq-eqb t 0x01 a)

  pub type_2 : (t ≡ 0x01 → ⊥) → t ≡ 0x02 → true ≡ type_ok t
  unfolding type_ok
  type_2 a b = rw (ne_eqb t 0x01 a, eq-eqb t 0x02 b)

  pub type_3 : (t ≡ 0x01 → ⊥) → (t ≡ 0x02 → ⊥) → t ≡ 0x03 → true ≡ type_ok t
  unfolding type_ok
  type_3 a b d = rw (ne_eqb t 0x01 a, ne_eqb t 0x02 b, eq-eqb t 0x03 d)

  pub type_254 : (t ≡ 0x01 → ⊥) → (t ≡ 0x02 → ⊥) → (t ≡ 0x03 → ⊥) → t ≡ 0xFE → true ≡ type_ok t
  unfolding type_ok
  type_254 a b d e = rw (ne_eqb t 0x01 a, ne_eqb t 0x02 b, ne_eqb t 0x03 d, eq-eqb t 0xFE e)

  pub type_last : (t ≡ 0x01 → ⊥) → (t ≡ 0x02 → ⊥) → (t ≡ 0x03 → ⊥) → (t ≡ 0xFE → ⊥) → eqb t 0xFF ≡ type_ok t
  unfolding type_ok
  type_last a b d e = rw (ne_eqb t 0x01 a, ne_eqb t 0x02 b, ne_eqb t 0x03 d, ne_eqb t 0xFE e)
