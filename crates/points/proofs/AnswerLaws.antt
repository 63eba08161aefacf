-- Laws of what the calls on points answer.
use Rattle.std.specs.Prelude.{◌≡◌, ℕ, true, false, Float, Result, Ok, Err}
use Rattle.std.proofs.Common.{sym, ap, ap₂, ◌∙◌, eq-eqb}
use Rattle.refusal.specs.Answers.{number_of}
use Rattle.refusal.specs.AnswerLaws.{refused_not_0}
use Rattle.refusal.specs.declared.Refusal.{Refusal}
use Rattle.points.specs.declared.Point.{Point}
use Rattle.points.specs.Points.{arranged_of}
use Rattle.points.specs.Answers.{coordinates, valued, as_values, point_values, Answers, turned_answer}

pub refused : (n : ℕ) (p : Point) (e : Refusal) → number_of e ≡ n → Answers n p (Err e)
refused n p e h = record { number = h; values = rw (← h, refused_not_0 e) }

pub answered : (n : ℕ) (p r : Point) → n ≡ 0 → r ≡ p → Answers n p (Ok r)
answered n p r e d = record { number = sym e; values = rw (eq-eqb n 0 e) (ap coordinates d) }

-- coordinates tell points apart
same_point : (p r : Point) → coordinates p ≡ coordinates r → p ≡ r
same_point p r e =
    let i : p.i ≡ r.i = cc in
    let q : p.q ≡ r.q = cc in
    ap₂ (λ (x y : Float). record { i = x; q = y }) i q

-- where there is a point, the number is 0 and the point the one that is right
pub point_answered : (n : ℕ) (p r : Point) → Answers n p (Ok r) → (n ≡ 0) × (r ≡ p)
point_answered n p r a =
    let z : n ≡ 0 = sym a.number in
    (z, same_point r p (rw (eq-eqb n 0 z) at a.values))

-- where there is none, the number refuses
pub refusal_answered : (n : ℕ) (p : Point) (e : Refusal) → Answers n p (Err e) → (number_of e ≡ n) × (n ≡ 0 → ⊥)
refusal_answered n p e a = (
  a.number,
  λ z.
      let t : true ≡ false = sym (eq-eqb (number_of e) 0 (a.number ∙ z)) ∙ refused_not_0 e in
      cc,
)

-- an answer has the number and the values of the point that is right
pub values_answered : (n : ℕ) (p : Point) (r : Result Point Refusal) → Answers n p r → as_values r ≡ point_values n p
values_answered n p r a = ap₂ valued a.number a.values

-- the turn by the register goes through the answer
pub point_turned : (register n : ℕ) (p r : Point) → Answers n p (Ok r) → Answers n (arranged_of register p) (Ok (arranged_of register r))
point_turned register n p r a =
    let f = point_answered n p r a in
    answered n (arranged_of register p) (arranged_of register r) f.0 (ap (arranged_of register) f.1)

pub refusal_turned : (register n : ℕ) (p : Point) (e : Refusal) → Answers n p (Err e) → Answers n (arranged_of register p) (Err e)
refusal_turned register n p e a = refused n (arranged_of register p) e a.number

pub turned : (register n : ℕ) (p : Point) (r : Result Point Refusal) → Answers n p r → Answers n (arranged_of register p) (turned_answer register r)
turned register n p (Ok r) a = point_turned register n p r a
turned register n p (Err e) a = refusal_turned register n p e a
