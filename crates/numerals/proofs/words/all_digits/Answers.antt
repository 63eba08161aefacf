-- `numerals::all_digits`: what `all` says of each octet is the test of the definition.
use Rattle.std.proofs.Common.{◌≡◌, ℕ, ◌<◌, ◌≤◌, Bool, true, false, List, length, MatchBool, sym, arith, rules, tests, lt-ltb, le-ltb}
use Rattle.std.specs.List.{HoldsAt, AllWithin}
use Rattle.std.proofs.lemmas.Iterator.{cases_from_all, YieldsList-from_slice}
use Rattle.lists.specs.Count.{every}
use Rattle.lists.specs.CountLaws.{every_all, every_not}
use Rattle.numerals.specs.Numerals.{digit_of}
use Rattle.numerals.specs.Words.{digit_at}
use Rattle.numerals.proofs.words.all_digits.Goals as goal

every_digit : (r : Bool) (base : ℕ) (t : List ℕ)
    → MatchBool r (AllWithin (λ x. digit_of x < base) t 0 (length t)) ((k : ℕ) × (k < length t) × HoldsAt (λ x. base ≤ digit_of x) t k)
    → r ≡ every (length t) (digit_at base t)
every_digit true base t h = sym (every_all (length t) (digit_at base t) (λ k l. lt-ltb _ base (h k 0 (omega arith) l)))
every_digit false base t h = sym (every_not (length t) (digit_at base t) h.0 h.1 (le-ltb _ base (h.2 0)))

pub returns : goal.returns
returns c =
    let b = c.args.base in
    let t = c.args.text.now in
    every_digit _ b t
    (cases_from_all _ _ _ (λ x. digit_of x < b) (λ x. b ≤ digit_of x) c.all.ensures.ran (YieldsList-from_slice t cc) (λ x q k. search (rules, tests)) (λ x q k. search (rules, tests)))
