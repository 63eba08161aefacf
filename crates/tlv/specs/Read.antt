-- Reading TLV packets from n slots of D data octets, their reports and lost marks (document 02, N2): one step at a position,
-- and steps until one stops.
use Rattle.std.specs.Prelude.{Bool, not, ◌&&◌, List, [], ◌++◌, ℕ, zero, suc, ◌+◌, ◌*◌, ◌/◌, eqb, leb, ltb, get_or}
use Rattle.lists.specs.Choice.{pick}
use Rattle.lists.specs.Count.{first}
use Rattle.tlv.specs.Packets.{head_ok, size_at, body_ok, empty_null, run}
use Rattle.tlv.specs.Fill.{none}

-- "a lost mark (0 or 1) each": slot k is lost
abbrev pub lost_slot : List ℕ → ℕ → Bool
lost_slot lost k = eqb (get_or lost k 0) 1

-- the first lost slot from slot s on that begins before octet e, n where there is none
unfoldable pub lost_from : ℕ → ℕ → List ℕ → ℕ → ℕ → ℕ
lost_from D n lost s e = first n (λ k. leb s k && (ltb (D * k) e && lost_slot lost k))

-- the first lost slot that the octets from p to before e meet
abbrev pub meets : ℕ → ℕ → List ℕ → ℕ → ℕ → ℕ
meets D n lost p e = lost_from D n lost (p / D) e

-- the first slot from slot k on that is not lost and reports a beginning, n where there is none
unfoldable pub reporting : ℕ → List ℕ → List ℕ → ℕ → ℕ
reporting n lost begins k = first n (λ s. leb k s && (not (lost_slot lost s) && not (eqb (get_or begins s 0) none)))

-- "goes on at the next reported beginning", that of slot k or of one behind it; the slots' length where there is none
unfoldable pub on_from : ℕ → ℕ → List ℕ → List ℕ → ℕ → ℕ
on_from D n lost begins k =
    pick (ltb (reporting n lost begins k) n)
    (D * reporting n lost begins k + get_or begins (reporting n lost begins k) 0)
    (D * n)

-- stop, and say where the unfinished one begins; or write octets and go on at a position
pub data Step : Type 0 where
  stop : ℕ → Step
  on : List ℕ → ℕ → Step

module _ (D n : ℕ) (lost begins : List ℕ) where
  -- "After a lost slot it drops the broken packet": the octets from p to before e are wanted. Where they meet a lost slot,
  -- reading goes on behind it; where they run past the slots, what begins at p is unfinished; else it is s
  unfoldable pub whole : ℕ → ℕ → Step → Step
  whole p e s =
      pick (ltb (meets D n lost p e) n) (on [] (on_from D n lost begins (meets D n lost p e + 1)))
      (pick (ltb (D * n) e) (stop p) s)

  -- "A head or null body that is whole and wrong counts as losing the rest of the slot where that head begins"
  unfoldable pub wrong : ℕ → Step
  wrong p = on [] (on_from D n lost begins (p / D + 1))

  -- at position p: nothing is left; or the head has to be whole and right, then head and body; a packet is written, unless
  -- it is an empty null, and reading goes on behind it
  unfoldable pub step : (ℕ → ℕ) → ℕ → Step
  step o p =
      pick (eqb p (D * n)) (stop p)
      (whole p (p + 4)
      (pick (head_ok o p)
      (whole p (p + size_at o p)
      (pick (body_ok o p) (on (pick (empty_null o p) [] (run o p (size_at o p))) (p + size_at o p)) (wrong p)))
      (wrong p)))

-- "it says how many octets it wrote and where in the lent slots an unfinished last packet or null begins (the slots' length
-- if none)": the octets themselves, and that position
pub record Reading : Type 0 where
  pub written : List ℕ
  pub unfinished : ℕ

-- a step, and what r reads from where it goes on
abbrev pub after : (ℕ → Reading) → Step → Reading
after r (stop u) = record { written = []; unfinished = u }
after r (on xs q) = record { written = xs ++ (r q).written; unfinished = (r q).unfinished }

module _ (D n : ℕ) (lost begins : List ℕ) where
  -- f steps at most from position p on; as many as the slots have octets are always enough (ReadForward, `read_enough`)
  unfoldable pub read : (ℕ → ℕ) → ℕ → ℕ → Reading
  read o zero p = record { written = []; unfinished = D * n }
  read o (suc f) p = after (read o f) (step D n lost begins o p)

  -- "the first octet to read (65535 for the first reported beginning)"
  unfoldable pub start : ℕ → ℕ
  start f = pick (eqb f none) (on_from D n lost begins 0) f
