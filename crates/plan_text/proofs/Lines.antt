-- The lines passed so far: what follows where reading goes on, stops at a wrong line, has too many lines, or ends.
use mathlib.Core.Path.{◌≡◌, sym, ap, ◌∙◌}
use mathlib.Core.Bool.{true, false, and-false}
use mathlib.Core.List.{List}
use Prim.Native.Nat.{ℕ, ◌+◌, ◌≤◌, ◌<◌}
use native.Mathlib.Decide.{ℕ_discrete}
use native.Mathlib.Omega.{arith}
use borrow.Author.Tests.{le-leb, lt-leb, eq-eqb, ne_eqb}
use lib.Dec.{leb, eqb}
use lib.ListN.{length}
use Rattle.lists.specs.CountLaws.{first_is}
use Rattle.plan_text.specs.Reading.{line_ok, line_of, line_start, stops_at, lines_of, text_number}
use Rattle.plan_text.specs.ReadingLaws.{line_none, line_more, line_within}

-- n lines are passed, and the next one begins at a place of the text
pub record Passed (t : List ℕ) (n at : ℕ) : Type 0 where
  pub few : n ≤ 8
  pub place : at ≡ line_start t n
  pub within : at ≤ length t
  pub right : (k : ℕ) → k < n → stops_at t k ≡ false

pub passed_none : (t : List ℕ) → Passed t 0 0
passed_none t = record { few = omega arith; place = sym (line_none t); within = omega arith; right = λ k h. absurd (omega arith) }

goes_on : (t : List ℕ) (n at : ℕ) → at ≡ line_start t n → at < length t → line_ok t at ≡ true → stops_at t n ≡ false
unfolding stops_at
goes_on t n at p l o = rw (← p, lt-leb (length t) at l, o)

pub passed_next : (t : List ℕ) (n at : ℕ) → Passed t n at → n < 8 → at < length t → line_ok t at ≡ true → Passed t (n + 1) (line_of t at).next
passed_next t n at f h l o =
    record {
      few = omega arith;
      place = ap (λ (a : ℕ). (line_of t a).next) f.place ∙ sym (line_more t n);
      within = line_within t at o;
      right = λ k j. go k j (ℕ_discrete k n);
    }
  where
    go : (k : ℕ) → k < n + 1 → Dec (k ≡ n) → stops_at t k ≡ false
    go k j (yes e) = ap (stops_at t) e ∙ goes_on t n at f.place l o
    go k j (no e) = f.right k (omega arith)

-- where reading stops, the lines passed are all
stopped : (t : List ℕ) (n at : ℕ) → Passed t n at → (n < 8 → stops_at t n ≡ true) → lines_of t ≡ n
unfolding lines_of
stopped t n at f s = first_is 8 (stops_at t) n (record { within = f.few; before = f.right; there = s })

-- with text left over it is refused
left_over : (t : List ℕ) (n at : ℕ) → Passed t n at → lines_of t ≡ n → at < length t → text_number t ≡ 1
unfolding text_number
left_over t n at f e l =
    let p : line_start t (lines_of t) ≡ at = ap (line_start t) e ∙ sym f.place in
    let d : eqb (line_start t (lines_of t)) (length t) ≡ false = ne_eqb (line_start t (lines_of t)) (length t) (λ w. omega (arith, p, w)) in
    rw (d, and-false (leb (length t) 128))

pub passed_many : (t : List ℕ) (n at : ℕ) → Passed t n at → n ≡ 8 → at < length t → text_number t ≡ 1
passed_many t n at f e l = left_over t n at f (stopped t n at f (λ h. absurd (omega arith))) l

pub passed_wrong : (t : List ℕ) (n at : ℕ) → Passed t n at → at < length t → line_ok t at ≡ false → text_number t ≡ 1
unfolding stops_at
passed_wrong t n at f l o =
    left_over t n at f (stopped t n at f (λ h. rw (← f.place, lt-leb (length t) at l, o))) l

pub passed_all : (t : List ℕ) (n at : ℕ) → Passed t n at → length t ≤ at → lines_of t ≡ n
unfolding stops_at
passed_all t n at f l = stopped t n at f (λ h. rw (← f.place, le-leb (length t) at l))

pub passed_ends : (t : List ℕ) (n at : ℕ) → Passed t n at → length t ≤ at → length t ≤ 128 → text_number t ≡ 0
unfolding text_number
passed_ends t n at f l h =
    let e : line_start t (lines_of t) ≡ length t = ap (line_start t) (passed_all t n at f l) ∙ sym f.place ∙ omega (arith, f.within) in
    rw (le-leb (length t) 128 h, eq-eqb _ _ e)
