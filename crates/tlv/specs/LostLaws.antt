-- A lost slot is never looked at: neither its octets nor its report.
use Rattle.std.specs.Prelude.{◌≡◌, Bool, ◌&&◌, List, eqb, leb}
use Rattle.std.proofs.Math.Path.{refl}
use Rattle.std.proofs.Math.Bool.{true, false, not}
use Prim.Native.Nat.{ℕ, zero, suc, ◌+◌, ◌*◌, ◌/◌, ◌<◌}
use borrow.Author.Tests.{ltb-true, not-true}
use Rattle.std.proofs.Math.Dec.{ltb}
use Rattle.std.proofs.Math.ListN.{get_or}
use Rattle.lists.specs.Choice.{pick}
use Rattle.lists.specs.ChoiceLaws.{and_left, and_right}
use Rattle.lists.specs.CountLaws.{first_first, first_same}
use Rattle.tlv.specs.Fill.{none}
use Rattle.tlv.specs.Read.{lost_slot, meets, reporting, on_from, Step, whole, wrong, step, read, start}
use Rattle.tlv.specs.SlotLaws.{after_same}

-- two readings whose reports agree in all slots that are not lost
module _ (D n : ℕ) (lost begins told : List ℕ) (heard : (k : ℕ) → k < n → lost_slot lost k ≡ false → get_or begins k 0 ≡ get_or told k 0) where
  reporting_heard : (k : ℕ) → reporting n lost begins k ≡ reporting n lost told k
  unfolding reporting
  reporting_heard k = first_same n _ _ (λ s l. go s l (lost_slot lost s) refl)
    where
      go : (s : ℕ) → s < n → (t : Bool) → lost_slot lost s ≡ t
          → (leb k s && (not (lost_slot lost s) && not (eqb (get_or begins s 0) none))) ≡ (leb k s && (not (lost_slot lost s) && not (eqb (get_or told s 0) none)))
      go s l true e = rw e
      go s l false e = rw (heard s l e)

  on_heard : (k : ℕ) → on_from D n lost begins k ≡ on_from D n lost told k
  unfolding on_from reporting
  on_heard k = rw (reporting_heard k) (go (ltb (reporting n lost told k) n) refl)
    where
      go : (t : Bool) → ltb (reporting n lost told k) n ≡ t
          → pick t (D * reporting n lost told k + get_or begins (reporting n lost told k) 0) (D * n)
          ≡ pick t (D * reporting n lost told k + get_or told (reporting n lost told k) 0) (D * n)
      go true e =
          let s : ℕ = reporting n lost told k in
          let l : s < n = ltb-true s n e in
          let t = and_right (leb k s) _ ((first_first n _).there l) in
          rw (heard s l (not-true _ (and_left (not (lost_slot lost s)) _ t)))
      go false e = refl

  whole_heard : (p e : ℕ) (s : Step) → whole D n lost begins p e s ≡ whole D n lost told p e s
  unfolding whole
  whole_heard p e s = rw (on_heard (meets D n lost p e + 1))

  wrong_heard : (p : ℕ) → wrong D n lost begins p ≡ wrong D n lost told p
  unfolding wrong
  wrong_heard p = rw (on_heard (p / D + 1))

  step_heard : (o : ℕ → ℕ) (p : ℕ) → step D n lost begins o p ≡ step D n lost told o p
  unfolding step
  step_heard o p = rw (wrong_heard p, whole_heard p (p + 4) _, whole_heard p _ _)

  pub start_heard : (f : ℕ) → start D n lost begins f ≡ start D n lost told f
  unfolding start
  start_heard f = rw (on_heard 0)

  pub read_heard : (o : ℕ → ℕ) (f p : ℕ) → read D n lost begins o f p ≡ read D n lost told o f p
  unfolding read
  read_heard o zero p = refl
  read_heard o (suc f) p = rw (step_heard o p) (after_same _ _ (read_heard o f) (step D n lost told o p))
