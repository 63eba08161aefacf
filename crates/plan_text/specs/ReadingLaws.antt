-- Laws of reading: how far a field and a line reach, and how large their numbers are.
use Rattle.std.specs.Prelude.{◌≡◌, refl, Bool, true, false, ◌||◌, not, List, ℕ, zero, suc, ◌+◌, ◌^◌, ◌<◌, ◌≤◌, eqb, leb, ltb, length, get_or, set, replicate}
use Rattle.std.proofs.Common.{sym, ap, ◌∙◌, add-one, arith, eqb-true, lt-ltb, le-ltb, length-set, get_or-set_same, get_or-set_other}
use Rattle.std.proofs.Math.Decide.{dec_lt, ℕ_discrete}
use Rattle.std.proofs.Math.ListN.{get_or-eq_default}
use Rattle.std.proofs.lemmas.List.{get_or-replicate}
use Rattle.lists.specs.Choice.{pick}
use Rattle.lists.specs.ChoiceLaws.{and_right}
use Rattle.lists.specs.CountLaws.{table_is, get_or_table, length_table}
use Rattle.texts.specs.Characters.{ZERO}
use Rattle.numerals.specs.Numerals.{is_digit, value_of}
use Rattle.numerals.specs.NumeralLaws.{value_lt}
use Rattle.plan_text.specs.Reading.{digits_at, field_ok, field_end, field_start, line_ok, line_of, line_start, column}

-- by the three tests of digits
few : (a b c : Bool) → pick a (pick b (pick c 3 2) 1) 0 ≤ 3
few true true true = omega arith
few true true false = omega arith
few true false c = omega arith
few false b c = omega arith

pub digits_most : (t : List ℕ) (at : ℕ) → digits_at t at ≤ 3
unfolding digits_at
digits_most t at = few (is_digit 10 (get_or t at 0)) (is_digit 10 (get_or t (at + 1) 0)) (is_digit 10 (get_or t (at + 2) 0))

-- each octet that is counted is a digit
counted : (f : ℕ → Bool) (k : ℕ) → (a b c : Bool) → f 0 ≡ a → f 1 ≡ b → f 2 ≡ c → k < pick a (pick b (pick c 3 2) 1) 0 → f k ≡ true
counted f zero true b c p q r h = p
counted f zero false b c p q r h = absurd (omega arith)
counted f (suc zero) true true c p q r h = q
counted f (suc zero) true false c p q r h = absurd (omega arith)
counted f (suc zero) false b c p q r h = absurd (omega arith)
counted f (suc (suc zero)) true true true p q r h = r
counted f (suc (suc zero)) true true false p q r h = absurd (omega arith)
counted f (suc (suc zero)) true false c p q r h = absurd (omega arith)
counted f (suc (suc zero)) false b c p q r h = absurd (omega arith)
counted f (suc (suc (suc k))) a b c p q r h = absurd (omega (arith, few a b c))

pub digits_are : (t : List ℕ) (at k : ℕ) → k < digits_at t at → is_digit 10 (get_or t (at + k) 0) ≡ true
unfolding digits_at
digits_are t at k h =
    let e : at + 0 ≡ at = omega arith in
    counted (λ j. is_digit 10 (get_or t (at + j) 0)) k _ _ _ (ap (λ (n : ℕ). is_digit 10 (get_or t n 0)) e) refl refl h

thousand : (k : ℕ) → k ≤ 3 → 10 ^ k ≤ 1000
thousand zero h = omega arith
thousand (suc zero) h = omega arith
thousand (suc (suc zero)) h = omega arith
thousand (suc (suc (suc zero))) h = omega arith
thousand (suc (suc (suc (suc k)))) h = absurd (omega arith)

-- the number of a field has three digits at most
pub field_small : (t : List ℕ) (at : ℕ) → value_of 10 t at (digits_at t at) ≤ 999
field_small t at =
    let m = digits_most t at in
    omega (arith, value_lt 10 t at (digits_at t at) (λ k h. digits_are t at k h), thousand (digits_at t at) m)

-- fields end soon
pub field_near : (t : List ℕ) (at : ℕ) → field_end t at ≤ at + 4
field_near t at = omega (arith, digits_most t at)

pub field_next : (t : List ℕ) (at k : ℕ) → field_start t at (k + 1) ≡ field_end t (field_start t at k)
unfolding field_start
field_next t at k = rw add-one

-- a separator stands within the text
pub field_within : (t : List ℕ) (at separator : ℕ) → 1 ≤ separator → field_ok t at separator ≡ true → field_end t at ≤ length t
unfolding field_ok
field_within t at separator s h =
    let a = and_right (leb 1 (digits_at t at)) _ h in
    let b = eqb-true (get_or t (at + digits_at t at) 0) separator (and_right (eqb (digits_at t at) 1 || not (eqb (get_or t at 0) ZERO)) _ a) in
    go b (dec_lt (at + digits_at t at) (length t))
  where
    go : get_or t (at + digits_at t at) 0 ≡ separator → Dec (at + digits_at t at < length t) → field_end t at ≤ length t
    go b (yes l) = omega arith
    go b (no l) = absurd (omega (arith, b, get_or-eq_default t 0 {n = at + digits_at t at} (omega arith)))

pub line_within : (t : List ℕ) (at : ℕ) → line_ok t at ≡ true → (line_of t at).next ≤ length t
unfolding line_ok line_of
line_within t at h =
    let a = and_right (field_ok t (field_start t at 0) 32) _ h in
    let b = and_right (field_ok t (field_start t at 1) 32) _ a in
    rw (field_next t at 2) (field_within t (field_start t at 2) 10 (omega arith) b)

-- a line takes some room
pub line_ahead : (t : List ℕ) (at : ℕ) → at < (line_of t at).next
unfolding line_of field_start
line_ahead t at = omega arith

pub line_none : (t : List ℕ) → line_start t 0 ≡ 0
unfolding line_start
line_none t = refl

pub line_more : (t : List ℕ) (k : ℕ) → line_start t (k + 1) ≡ (line_of t (line_start t k)).next
unfolding line_start
line_more t k = rw add-one

pub length_column : (f : ℕ → ℕ) (n : ℕ) → length (column f n) ≡ 8
unfolding column
length_column f n = length_table 8 (λ g. pick (ltb g n) (f g) 0)

pub column_none : (f : ℕ → ℕ) → column f 0 ≡ replicate 8 0
unfolding column
column_none f =
    sym
    (table_is 8 (λ g. pick (ltb g 0) (f g) 0) (replicate 8 0) refl
    (λ k h. get_or-replicate 8 k 0 0 h ∙ rw (le-ltb k 0 (omega arith))))

-- the number of one line more
pub column_more : (f : ℕ → ℕ) (n : ℕ) → n < 8 → set (column f n) n (f n) ≡ column f (n + 1)
unfolding column
column_more f n h =
    table_is 8 (λ g. pick (ltb g (n + 1)) (f g) 0) (set (column f n) n (f n))
    (length-set (column f n) n (f n) ∙ length_column f n)
    (λ k l. go k l (ℕ_discrete k n))
  where
    go : (k : ℕ) → k < 8 → Dec (k ≡ n) → get_or (set (column f n) n (f n)) k 0 ≡ pick (ltb k (n + 1)) (f k) 0
    go k l (yes e) =
        rw (e, lt-ltb n (n + 1) (omega arith)) (get_or-set_same (column f n) n (f n) 0 (omega (arith, length_column f n)))
    go k l (no e) =
        get_or-set_other (column f n) n k (f n) 0 e ∙ get_or_table 8 (λ g. pick (ltb g n) (f g) 0) k l ∙ ap (λ (b : Bool). pick b (f k) 0) (same k e (dec_lt k n))
      where
        same : (k : ℕ) → (k ≡ n → ⊥) → Dec (k < n) → ltb k n ≡ ltb k (n + 1)
        same k e (yes w) = lt-ltb k n w ∙ sym (lt-ltb k (n + 1) (omega arith))
        same k e (no w) = le-ltb k n (omega arith) ∙ sym (le-ltb k (n + 1) (omega arith))
