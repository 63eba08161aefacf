-- What the functions ask of their arguments, and what they say of their results.
use Rattle.std.specs.Prelude.{◌≡◌, Bool, true, ◌&&◌, List, [], ℕ, ◌*◌, ◌<◌, ◌≤◌, eqb, length}
use Rattle.lists.specs.Choice.{pick}
use Rattle.tlv.specs.declared.ReadAnswer.{ReadAnswer}
use Rattle.tlv.specs.Packets.{run}
use Rattle.tlv.specs.Read.{Step, stop, on, whole, Reading}
use Rattle.tlv.specs.Calls.{laid}
use Rattle.tlv.specs.ReadForward.{Inside}

-- n slots of D octets, as many as a slice may have, and a mark for each
pub record Marked (D n : ℕ) (lost : List ℕ) : Type 0 where
  pub some : 0 < D
  pub room : D * n < 9223372036854775808
  pub marks : length lost ≡ n

pub record Reported (D n : ℕ) (lost begins : List ℕ) : Type 0 where
  pub marked : Marked D n lost
  pub reports : length begins ≡ n
  pub inside : Inside D n begins

-- the step that a Move is: stop at `at`, or write `size` octets from p on and go on at `at`
unfoldable pub moved : (ℕ → ℕ) → ℕ → Bool → ℕ → ℕ → Step
moved o p ends at size = pick ends (stop at) (on (run o p size) at)

-- a Move that says whether octets p to e are there, and what to do where they are not
pub record Whole (D n : ℕ) (lost begins : List ℕ) (p e : ℕ) (there ends : Bool) (at size : ℕ) : Type 0 where
  pub none : size ≡ 0
  pub fits : there ≡ true → e ≤ D * n
  pub is : (s : Step) → whole D n lost begins p e s ≡ pick there s (pick ends (stop at) (on [] at))

-- the octets of a packet that are written: "without empty nulls"
abbrev pub kept_of : ℕ → ℕ → ℕ
kept_of kind size = pick (eqb kind 0xFF && eqb size 4) 0 size

pub record Lent (D n : ℕ) (slots lost begins : List ℕ) (p : ℕ) : Type 0 where
  pub reported : Reported D n lost begins
  pub long : length slots ≡ D * n
  pub within : p ≤ D * n

pub record ReadNeeds (D n : ℕ) (slots lost begins : List ℕ) (p : ℕ) (area : List ℕ) : Type 0 where
  pub lent : Lent D n slots lost begins p
  pub place : length area ≡ length slots

-- slots of D octets, end to end, with a mark and a report each
pub record Lending (D : ℕ) (slots lost begins : List ℕ) : Type 0 where
  pub reported : Reported D (length begins) lost begins
  pub long : length slots ≡ D * length begins

-- an answer that says the reading g, and the area that held `found`
pub record ReadIs (g : Reading) (r : ReadAnswer) (found area : List ℕ) : Type 0 where
  pub answer : r ≡ record { number = 0; written = length g.written; unfinished = g.unfinished }
  pub octets : area ≡ laid g.written found
