-- `packets::syncs_ok`: what `all` says of each number is the test of the definition.
use Rattle.std.proofs.Common.{◌≡◌, ℕ, ◌<◌, Bool, true, false, length, get_or, MatchBool, sym, ap, ◌∙◌, refl, arith, rules, tests}
use Rattle.std.specs.List.{HoldsAt, AllWithin, range_with_len}
use Rattle.std.proofs.lemmas.Iterator.{cases_from_all, YieldsList-from_range}
use Rattle.std.proofs.lemmas.List.FromFn.{length-range_with_len, get_or-range_with_len}
use Rattle.lists.specs.Count.{every}
use Rattle.lists.specs.CountLaws.{every_all, every_not}
use Rattle.packets.specs.Packets.{begins_sync}
use Rattle.packets.proofs.carry.syncs_ok.Goals as goal

module _ (n : ℕ) (f : ℕ → Bool) where
  at_place : (k : ℕ) → k < n → f k ≡ f (get_or (range_with_len 0 n) k 0)
  at_place k l = ap f (sym (get_or-range_with_len 0 n k 0 l ∙ omega arith))

  every_from : (r : Bool)
      → MatchBool r (AllWithin (λ x. f x ≡ true) (range_with_len 0 n) 0 (length (range_with_len 0 n)))
      ((k : ℕ) × (k < length (range_with_len 0 n)) × HoldsAt (λ x. f x ≡ false) (range_with_len 0 n) k)
      → r ≡ every n f
  every_from true h = sym (every_all n f (λ k l. at_place k l ∙ h k 0 (omega arith) (omega (arith, length-range_with_len 0 n))))
  every_from false h =
      let l : h.0 < n = omega (arith, h.1, length-range_with_len 0 n) in
      sym (every_not n f h.0 l (at_place h.0 l ∙ h.2 0))

pub returns : goal.returns
returns c =
    let n = c.args.count in
    let f = begins_sync c.args.packets.now in
    every_from n f _
    (cases_from_all _ _ _ (λ x. f x ≡ true) (λ x. f x ≡ false) c.all.ensures.ran (YieldsList-from_range 0 n n refl (omega arith)) (λ x q k. search (rules, tests)) (λ x q k. search (rules, tests)))
