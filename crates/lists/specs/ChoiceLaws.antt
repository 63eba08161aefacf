-- Laws of choosing by a test: what a number 0 says of the tests on the way to it.
use Rattle.std.specs.Prelude.{◌≡◌, refl, Bool, true, false, ◌&&◌, ◌||◌, ℕ, ◌<◌, eqb}
use Rattle.std.proofs.Common.{sym, ◌∙◌, arith, eq-eqb, ne_eqb}
use Rattle.std.proofs.lemmas.Bool.{false≢true}
use Rattle.std.proofs.Math.Decide.{ℕ_discrete}
use Rattle.lists.specs.Choice.{pick, and_then}

pub and_left : (a b : Bool) → (a && b) ≡ true → a ≡ true
and_left true b h = refl
and_left false b h = h

pub and_right : (a b : Bool) → (a && b) ≡ true → b ≡ true
and_right true b h = h
and_right false b h = absurd (false≢true h)

pub and_both : (a b : Bool) → a ≡ true → b ≡ true → (a && b) ≡ true
and_both true b h k = k
and_both false b h k = h

-- either holds
pub or_cases : {C : Type 0} (a b : Bool) → (a || b) ≡ true → (a ≡ true → C) → (a ≡ false → b ≡ true → C) → C
or_cases true b h f g = f refl
or_cases false b h f g = g refl h

pub or_true : (a b : Bool) → b ≡ true → (a || b) ≡ true
or_true true b e = refl
or_true false b e = e

pub false_of : (b : Bool) → (b ≡ true → ⊥) → b ≡ false
false_of true h = absurd (h refl)
false_of false h = refl

pub clash : (b : Bool) → b ≡ false → b ≡ true → ⊥
clash b f t = false≢true (sym f ∙ t)

-- two tests that hold together are one test
pub same_test : (a b : Bool) → (a ≡ true → b ≡ true) → (b ≡ true → a ≡ true) → a ≡ b
same_test true b f g = sym (f refl)
same_test false true f g = g refl
same_test false false f g = refl

pub pick_same : {A : Type 0} (t : Bool) (a : A) → pick t a a ≡ a
pick_same true a = refl
pick_same false a = refl

-- what holds of both holds of the one that is chosen, and of the number that answers
pub pick_each : {A : Type 0} (P : A → Type 0) (t : Bool) {a b : A} → P a → P b → P (pick t a b)
pick_each P true p q = p
pick_each P false p q = q

pub then_each : (P : ℕ → Type 0) {a b : ℕ} → P a → P b → P (and_then a b)
then_each P {a} p q = pick_each P (eqb a 0) q p

-- where the answer is 0, a test whose failure is refused held, whatever the refusal's number
pub not_refused : (t : Bool) (n : ℕ) → 0 < n → pick t 0 n ≡ 0 → t ≡ true
not_refused true n l h = refl
not_refused false n l h = absurd (omega arith)

-- and one whose holding is refused failed
pub no_cause : (t : Bool) (n : ℕ) → 0 < n → pick t n 0 ≡ 0 → t ≡ false
no_cause true n l h = absurd (omega arith)
no_cause false n l h = refl

pub then_zero : (a b : ℕ) → and_then a b ≡ 0 → (a ≡ 0) × (b ≡ 0)
then_zero a b h = go (ℕ_discrete a 0)
  where
    go : Dec (a ≡ 0) → (a ≡ 0) × (b ≡ 0)
    go (yes e) = (e, rw (eq-eqb a 0 e) at h)
    go (no n) = absurd (n (rw (ne_eqb a 0 n) at h))

-- where the first number does not refuse, the second decides
pub then_next : (a b : ℕ) → a ≡ 0 → and_then a b ≡ b
then_next a b e = rw (eq-eqb a 0 e)

-- where the first number refuses, it is the answer
pub then_first : (a b : ℕ) → (a ≡ 0 → ⊥) → and_then a b ≡ a
then_first a b n = rw (ne_eqb a 0 n)

-- a refusal goes through what is tested behind it
pub onward : (a n b : ℕ) → a ≡ n → (n ≡ 0 → ⊥) → and_then a b ≡ n
onward a n b e h = then_first a b (λ z. h (sym e ∙ z)) ∙ e

pub then_both : (a b : ℕ) → a ≡ 0 → b ≡ 0 → and_then a b ≡ 0
then_both a b e f = then_next a b e ∙ f
