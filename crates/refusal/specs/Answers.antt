-- What calls answer: the number of a refusal and of an answer, and what a call that fills an area leaves.
use Rattle.std.specs.Prelude.{◌≡◌, List, ℕ, eqb, Result, Ok, Err}
use Rattle.lists.specs.Choice.{pick}
use Rattle.refusal.specs.Numbers.{PLAN, DUMMY, FULL, LENGTH, TABLE, REGISTER, SYNC, PARITY, BCH, TAIL, LABEL, VALUE, ORDER, TOTAL, PACKET, BLOCK, COORDINATE}
use Rattle.refusal.specs.declared.Refusal.{Refusal}
use Rattle.refusal.specs.declared.Refusal.TheVariants.{Plan, Dummy, Full, Length, Table, Register, Sync, Parity, Bch, Tail, Label, Value, Order, Total, Packet, Block, Coordinate}

-- document 01, "Each place and its form": "Where an answer is an enum, there is a definition that gives this paper's number and
-- values for each of its cases"
abbrev pub number_of : Refusal → ℕ
number_of Plan = PLAN
number_of Dummy = DUMMY
number_of Full = FULL
number_of Length = LENGTH
number_of Table = TABLE
number_of Register = REGISTER
number_of Sync = SYNC
number_of (Parity p) = PARITY
number_of Bch = BCH
number_of Tail = TAIL
number_of Label = LABEL
number_of Value = VALUE
number_of Order = ORDER
number_of Total = TOTAL
number_of Packet = PACKET
number_of Block = BLOCK
number_of Coordinate = COORDINATE

-- 0 where a call accepts, and the refusal's number where it refuses
abbrev pub number : {A : Type 0} → Result A Refusal → ℕ
number (Ok x) = 0
number (Err r) = number_of r

-- its number r, which is n, and the area that it left: what is right where the number is 0, and as found where it
-- refuses ("A refusal changes no lent octet")
pub record Answered {A : Type 0} (n : ℕ) (right found : List A) (r : ℕ) (left : List A) : Type 0 where
  pub number : r ≡ n
  pub area : left ≡ pick (eqb n 0) right found

-- what one call made the call of the way back takes, and makes of it what was there before
pub record BackAgain (n : ℕ) (made was : List ℕ) : Type 0 where
  pub taken : n ≡ 0
  pub same : made ≡ was
