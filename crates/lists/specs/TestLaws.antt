-- What the library's `all` answers, as the definition that counts by index.
use Rattle.std.specs.Prelude.{◌≡◌, Bool, true, false, List, ℕ, ◌<◌, Option, length, get_or}
use Rattle.std.specs.Bool.{MatchBool}
use Rattle.std.specs.Option.{MatchOption}
use Rattle.std.specs.List.{AllWithin, HoldsAt, FoldsTo}
use Rattle.std.specs.Fn.{Called}
use Rattle.std.specs.Iterator.{YieldsThen}
use denote.Param.Members.{Mut}
use Rattle.std.proofs.Common.{arith}
use Rattle.std.proofs.lemmas.Iterator.{YieldsList, cases_from_all}
use Rattle.lists.specs.Count.{every}
use Rattle.lists.specs.CountLaws.{every_all, every_not}

answered : (test : ℕ → Bool) (xs : List ℕ) (r : Bool) → MatchBool r (AllWithin (λ x. test x ≡ true) xs 0 (length xs)) ((k : ℕ) × (k < length xs) × HoldsAt (λ x. test x ≡ false) xs k)
    → every (length xs) (λ k. test (get_or xs k 0)) ≡ r
answered test xs true h = every_all (length xs) _ (λ k l. h k 0 (omega arith) l)
answered test xs false h = every_not (length xs) _ h.0 h.1 (h.2 0)

-- the closure is the test
pub every_from_all : {S A F : Type 0} {steps : S → Option A → S → Type 0} {v : A → ℕ} {g : Mut F (A × Unit {0}) Bool} {s : S} {xs : List ℕ} (u : S) (f : F) (r : Bool) (test : ℕ → Bool)
    → (zs : List A) × (o : Option A) × (j : F) × YieldsThen steps s zs o u × FoldsTo (λ p x q. Called g p (x, tt) true q) f zs j × MatchOption o (r ≡ true) (λ x. (r ≡ false) × ((h : F) × Called g j (x, tt) false h))
    → YieldsList steps v s xs → ((x : A) (q : F) → Called g f (x, tt) true q → (q ≡ f) × (test (v x) ≡ true)) → ((x : A) (q : F) → Called g f (x, tt) false q → test (v x) ≡ false)
    → every (length xs) (λ k. test (get_or xs k 0)) ≡ r
every_from_all {xs} u f r test ran yields holds fails = answered test xs r (cases_from_all u f r (λ x. test x ≡ true) (λ x. test x ≡ false) ran yields holds fails)
