-- Laws of the refusals: what a number 0 says of what is lent, and an unknown modulation.
use Rattle.std.specs.Prelude.{◌≡◌, refl, Bool, true, false, ◌&&◌, List, ℕ, ◌^◌, ◌<◌, eqb, Float, length}
use Rattle.std.proofs.Common.{arith, eqb-true}
use Rattle.lists.specs.Choice.{pick}
use Rattle.lists.specs.ChoiceLaws.{and_left, and_right, then_zero, not_refused}
use Rattle.refusal.specs.Numbers.{PLAN, LENGTH, REGISTER}
use Rattle.plan.specs.Rates.{modulation_ok}
use Rattle.symbols.specs.Labels.{label_number}
use Rattle.symbols.specs.CallLaws.{labels_fit}
use Rattle.points.specs.Needs.{Listed, Areas}
use Rattle.points.specs.Numbers.{symbol_ok, lent_ok, lent_number, room_ok, points_number}

-- what is lent where the number is 0: a known modulation, both lists with an entry for each label, a symbol number, and room
pub record Lent (m symbol ins quads : ℕ) (room : Bool) : Type 0 where
  pub known : modulation_ok m ≡ true
  pub in_phase : ins ≡ 2 ^ m
  pub quadrature : quads ≡ 2 ^ m
  pub numbered : symbol_ok m symbol ≡ true
  pub fits : room ≡ true

pub lent : (m symbol ins quads : ℕ) (register room : Bool) → lent_number m register (lent_ok m symbol ins quads && room) ≡ 0 → Lent m symbol ins quads room
unfolding lent_number lent_ok
lent m symbol ins quads register room h =
    let a = then_zero (pick (modulation_ok m) 0 PLAN) _ h in
    let b = then_zero (pick register 0 REGISTER) _ a.1 in
    let t = not_refused (lent_ok m symbol ins quads && room) LENGTH (omega arith) b.1 in
    let l = and_left (lent_ok m symbol ins quads) room t in
    let n = and_right (eqb ins (2 ^ m)) _ l in
    record {
      known = not_refused (modulation_ok m) PLAN (omega arith) a.0;
      in_phase = eqb-true ins (2 ^ m) (and_left (eqb ins (2 ^ m)) _ l);
      quadrature = eqb-true quads (2 ^ m) (and_left (eqb quads (2 ^ m)) _ n);
      numbered = and_right (eqb quads (2 ^ m)) _ n;
      fits = and_right (lent_ok m symbol ins quads) room t;
    }

-- a label below 2^m has an entry in both lists
pub listed : {m symbol : ℕ} {ins quads : List Float} {room : Bool} → Lent m symbol (length ins) (length quads) room → (label : ℕ) → label < 2 ^ m → Listed ins quads label
listed l label h = record { in_phase = omega (arith, l.in_phase); quadrature = omega (arith, l.quadrature) }

-- where a call fills no area, what is lent is what counts
pub and_true : (b : Bool) → (b && true) ≡ b
and_true true = refl
and_true false = refl

-- a run of labels with number 0 fills areas of its length, and each label has its entries
pub areas : (m symbol : ℕ) (labels : List ℕ) (ins quads is qs : List Float) → points_number m symbol labels ins quads (length is) (length qs) ≡ 0 → Areas labels ins quads is qs
unfolding points_number room_ok
areas m symbol labels ins quads is qs h =
    let a = then_zero (lent_number m true (lent_ok m symbol (length ins) (length quads) && room_ok (length labels) (length is) (length qs))) _ h in
    let b = then_zero (label_number m labels) _ a.1 in
    let l = lent m symbol (length ins) (length quads) true _ a.0 in
    record {
      listed = λ r p. listed l _ (labels_fit m labels b.0 r p);
      i_long = eqb-true (length is) (length labels) (and_left (eqb (length is) (length labels)) _ l.fits);
      q_long = eqb-true (length qs) (length labels) (and_right (eqb (length is) (length labels)) _ l.fits);
    }
