-- What document 02, N5, asks of stuff bits, as statements over the definitions that the contracts of the public entries cite.
-- What it amends of demand 2, there and back again, stands in Statements.antt.
use Rattle.std.specs.Prelude.{◌≡◌, List, [], ◌∷◌, ◌++◌, ℕ, ◌<◌, ◌≤◌, length, get_or, replicate}
use Rattle.lists.specs.Runs.{Bits, Octets}
use Rattle.bits.specs.Digits.{number}
use Rattle.bits.specs.Octets.{bits_of}
use Rattle.plan.specs.declared.Plan.{Plan}
use Rattle.plan.specs.declared.FrameState.{FrameState}
use Rattle.packets.specs.Packets.{unpack_number}
use Rattle.symbols.specs.Labels.{slot_of_labels_number, block_of_labels_number}
use Rattle.codeword.specs.Words.{word_of}
use Rattle.slot.specs.Slots.{stuff_bits, slot_shape}
use Rattle.slot.specs.Reading.{no_stuff, stuff_ones}
use Rattle.slot.specs.Calls.{rows_at, slot_number, next_state, read_answer, read_area, check_number, Reads}
use Rattle.tmcc.specs.Calls.{read_number as readBlockNumber}
use Rattle.frame.specs.Frames.{answers_of, stuffs_of, read_frame_number}
use Rattle.tlv.specs.Calls.{read_number as readTlvNumber}
use Rattle.settings.specs.Cards.{read_number as readSettingsNumber}

-- "with sound checks": the slot of header and data at a state's place, as coding makes it but for six stuff bits e
abbrev pub slot_with : FrameState → List ℕ → List ℕ → List ℕ → List ℕ
slot_with s t source e = word_of (slot_shape (rows_at s)) t s.mask s.register (bits_of source) e

-- "The reader accepts any six stuff bits and returns them as a number from 0 to 63", with header and data, and the state one
-- place on
abbrev pub AnyStuffRead : Type 0
AnyStuffRead =
    (s : FrameState) (t source out e : List ℕ) → Octets source → length out ≡ length source → Bits e → length e ≡ 6
    → slot_number s t out (slot_with s t source e) ≡ 0
    → Reads (read_answer s t (slot_with s t source e) out) (read_area s t (slot_with s t source e) out) (next_state s) (number 6 e) source

-- that number, worked: "as zeros", "first bit the highest", and the ones that coding sends
pub record WorkedStuff : Type 0 where
  pub zeros : number 6 (replicate 6 0) ≡ 0
  pub first : number 6 (1 ∷ replicate 5 0) ≡ 32
  pub last : number 6 (replicate 5 0 ++ (1 ∷ [])) ≡ 1
  pub ones : number 6 stuff_bits ≡ stuff_ones

-- "a number from 0 to 63 .. (255 with a refusal)": stuff bits x beside the number n of a reading
pub record StuffAnswered (n x : ℕ) : Type 0 where
  pub accepted : n ≡ 0 → x ≤ 63
  pub refused : (n ≡ 0 → ⊥) → x ≡ no_stuff

abbrev pub SlotStuffAnswered : Type 0
SlotStuffAnswered =
    (s : FrameState) (t coded source : List ℕ) → StuffAnswered (read_answer s t coded source).number (read_answer s t coded source).stuff

-- "a whole-frame read puts them in 120 further octets, 255 where the slot's answer isn't 0"
abbrev pub FrameStuffAnswered : Type 0
FrameStuffAnswered =
    (p : Plan) (ts : List ℕ) (mask start : ℕ) (frame : List ℕ)
    → (length (stuffs_of p ts mask start frame) ≡ 120)
    × ((k : ℕ) → k < 120 → StuffAnswered (get_or (answers_of p ts mask start frame) k 0) (get_or (stuffs_of p ts mask start frame) k 0))

-- "Number 10 never occurs again": no call that reads or checks answers it
abbrev pub NotTen : ℕ → Type 0
NotTen n = n ≡ 10 → ⊥

pub record NeverTen : Type 0 where
  pub slot : (s : FrameState) (t coded source : List ℕ) → NotTen (read_answer s t coded source).number
  pub frame : (p : Plan) (mask start : ℕ) (ts : List ℕ) (source frame answers stuff positions : ℕ)
      → NotTen (read_frame_number p mask start ts source frame answers stuff positions)
  pub answer : (p : Plan) (ts : List ℕ) (mask start : ℕ) (frame : List ℕ) (k : ℕ) → k < 120 → NotTen (get_or (answers_of p ts mask start frame) k 0)
  pub parity : (rate : ℕ) (t coded : List ℕ) → NotTen (check_number rate t coded)
  pub block : (mask start : ℕ) (t block source : List ℕ) → NotTen (readBlockNumber mask start t block source)
  pub unpacking : (rate : ℕ) (octets : List ℕ) (room : ℕ) → NotTen (unpack_number rate octets room)
  pub slot_labels : (m rate : ℕ) (labels : List ℕ) (room : ℕ) → NotTen (slot_of_labels_number m rate labels room)
  pub block_labels_law : (labels : List ℕ) (room : ℕ) → NotTen (block_of_labels_number labels room)
  pub tlv : (rate : ℕ) (slots begins lost : List ℕ) (first area : ℕ) → NotTen (readTlvNumber rate slots begins lost first area)
  pub settings : (card : List ℕ) (n : ℕ) → NotTen (readSettingsNumber card n)
