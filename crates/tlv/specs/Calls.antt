-- Numbers and answers of the two calls (document 02, N2).
use Rattle.std.specs.Prelude.{Bool, ◌&&◌, ◌||◌, List, ◌++◌, ℕ, ◌/◌, ◌%◌, eqb, leb, ltb, length, get_or, drop, Result, Ok, Err}
use Rattle.lists.specs.Choice.{pick, and_then}
use Rattle.lists.specs.Count.{every}
use Rattle.refusal.specs.Numbers.{PLAN, LENGTH, PACKET}
use Rattle.plan.specs.Rates.{rate_ok, data_octets_of}
use Rattle.refusal.specs.Answers.{number_of}
use Rattle.refusal.specs.declared.Refusal.{Refusal}
use Rattle.tlv.specs.declared.Filled.{Filled}
use Rattle.tlv.specs.declared.Unpacked.{Unpacked}
use Rattle.tlv.specs.declared.FillAnswer.{FillAnswer}
use Rattle.tlv.specs.declared.ReadAnswer.{ReadAnswer}
use Rattle.tlv.specs.Packets.{octets, packets_ok}
use Rattle.tlv.specs.Fill.{none, filled, reports, taken_after, owed_after}
use Rattle.tlv.specs.Read.{Reading, read, start}

-- how many slots of the rate the lent octets are
abbrev pub slots_of : ℕ → List ℕ → ℕ
slots_of rate slots = length slots / data_octets_of rate

-- "fills lent slots of the group, data octets only, end to end (none is 4, in reading too)": T octets are slots of D, and
-- there are as many reports
unfoldable pub slots_ok : ℕ → ℕ → ℕ → Bool
slots_ok D T begins = ltb 0 T && (eqb (T % D) 0 && eqb begins (T / D))

-- none of these: "Taken above the length, owed above 3, or any owed unless taken is 0 or the whole length, is 4"
unfoldable pub taken_ok : ℕ → ℕ → ℕ → Bool
taken_ok L taken owed = leb taken L && (leb owed 3 && (eqb owed 0 || (eqb taken 0 || eqb taken L)))

-- 1 and 4 of filling, by the lengths of the areas
unfoldable pub fill_lent : ℕ → ℕ → ℕ → ℕ → ℕ → ℕ → ℕ
fill_lent rate L taken owed T begins =
    and_then (pick (rate_ok rate) 0 PLAN) (pick (slots_ok (data_octets_of rate) T begins && taken_ok L taken owed) 0 LENGTH)

-- "Refused: 16 packet ..; tested after 4"
abbrev pub packet_number : List ℕ → ℕ
packet_number packets = pick (packets_ok packets) 0 PACKET

unfoldable pub fill_number : ℕ → List ℕ → ℕ → ℕ → List ℕ → List ℕ → ℕ
fill_number rate packets taken owed slots begins =
    and_then (fill_lent rate (length packets) taken owed (length slots) (length begins)) (packet_number packets)

-- what filling answers: "how many octets were taken in all and how many of a cut filler are owed", zeros with a refusal
unfoldable pub fill_answer : ℕ → List ℕ → ℕ → ℕ → List ℕ → List ℕ → FillAnswer
fill_answer rate packets taken owed slots begins =
    pick (eqb (fill_number rate packets taken owed slots begins) 0)
    (record { number = 0; taken = taken_after packets taken owed (length slots); owed = owed_after packets taken owed (length slots) })
    (record { number = fill_number rate packets taken owed slots begins; taken = 0; owed = 0 })

-- the slots, as found with a refusal
unfoldable pub fill_slots : ℕ → List ℕ → ℕ → ℕ → List ℕ → List ℕ → List ℕ
fill_slots rate packets taken owed slots begins =
    pick (eqb (fill_number rate packets taken owed slots begins) 0) (filled packets taken owed (length slots)) slots

-- their reports, as found with a refusal
unfoldable pub fill_begins : ℕ → List ℕ → ℕ → ℕ → List ℕ → List ℕ → List ℕ
fill_begins rate packets taken owed slots begins =
    pick (eqb (fill_number rate packets taken owed slots begins) 0)
    (reports (data_octets_of rate) (slots_of rate slots) packets taken owed)
    begins

-- not "A report or first octet past its slot and not 65535 .. is 4"
abbrev pub place_ok : ℕ → ℕ → Bool
place_ok D x = ltb x D || eqb x none

-- "a lost mark (0 or 1) each"; "another mark, is 4"
abbrev pub mark_ok : ℕ → Bool
mark_ok x = leb x 1

-- every element of a list holds
unfoldable pub all_hold : (ℕ → Bool) → List ℕ → Bool
all_hold f xs = every (length xs) (λ k. f (get_or xs k 0))

-- 4 of reading: "It is lent slots, their reports, a lost mark (0 or 1) each, and the first octet to read ..; the packets go
-- to an area as long as the slots"
unfoldable pub read_ok : ℕ → ℕ → List ℕ → List ℕ → ℕ → ℕ → Bool
read_ok D T begins lost f area =
    slots_ok D T (length begins)
    && (eqb (length lost) (length begins)
    && (eqb area T && (place_ok D f && (all_hold (place_ok D) begins && all_hold mark_ok lost))))

-- 1 and 4, with the length of the packets' area: "reading never gives 16"
unfoldable pub read_number : ℕ → List ℕ → List ℕ → List ℕ → ℕ → ℕ → ℕ
read_number rate slots begins lost f area =
    and_then (pick (rate_ok rate) 0 PLAN) (pick (read_ok (data_octets_of rate) (length slots) begins lost f area) 0 LENGTH)

-- what a call reads
unfoldable pub reading_of : ℕ → List ℕ → List ℕ → List ℕ → ℕ → Reading
reading_of rate slots begins lost f =
    read (data_octets_of rate) (slots_of rate slots) lost begins (octets slots) (length slots)
    (start (data_octets_of rate) (slots_of rate slots) lost begins f)

-- what reading answers: "how many octets it wrote and where in the lent slots an unfinished last packet or null begins", zeros
-- with a refusal
unfoldable pub read_answer : ℕ → List ℕ → List ℕ → List ℕ → ℕ → List ℕ → ReadAnswer
read_answer rate slots begins lost f packets =
    pick (eqb (read_number rate slots begins lost f (length packets)) 0)
    (record { number = 0; written = length (reading_of rate slots begins lost f).written; unfinished = (reading_of rate slots begins lost f).unfinished })
    (record { number = read_number rate slots begins lost f (length packets); written = 0; unfinished = 0 })

-- "the packets go to an area as long as the slots, whole ones only, the rest left as found"
abbrev pub laid : List ℕ → List ℕ → List ℕ
laid written found = written ++ drop (length written) found

-- the packets' area, as found with a refusal
unfoldable pub read_packets : ℕ → List ℕ → List ℕ → List ℕ → ℕ → List ℕ → List ℕ
read_packets rate slots begins lost f packets =
    pick (eqb (read_number rate slots begins lost f (length packets)) 0) (laid (reading_of rate slots begins lost f).written packets) packets

-- what filling and reading answer, counts or a refusal, as the number and the counts
abbrev pub as_fill : Result Filled Refusal → FillAnswer
as_fill (Ok f) = record { number = 0; taken = f.taken; owed = f.owed }
as_fill (Err r) = record { number = number_of r; taken = 0; owed = 0 }

abbrev pub as_read : Result Unpacked Refusal → ReadAnswer
as_read (Ok u) = record { number = 0; written = u.written; unfinished = u.unfinished }
as_read (Err r) = record { number = number_of r; written = 0; unfinished = 0 }
