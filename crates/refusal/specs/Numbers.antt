-- Document 01, "Refusal list", as document 02 amends it: the number of each word. 0 is accepted, and "Number 10 never occurs
-- again" (02, N5).
use Rattle.std.specs.Prelude.{ℕ}

-- 02, N1: "a wrong number of groups, slot number 0 or unreadable text, and in lone calls"; there, "modulation or rate unknown"
abbrev pub PLAN : ℕ
PLAN = 1

-- "data call at a dummy, or a pass at a data slot"
abbrev pub DUMMY : ℕ
DUMMY = 2

-- "slot 120 is past"
abbrev pub FULL : ℕ
FULL = 3

-- "a lent area isn't exactly its length"
abbrev pub LENGTH : ℕ
LENGTH = 4

-- "the parity table breaks its form"
abbrev pub TABLE : ℕ
TABLE = 5

-- "start, or the register in a state, 0 or too wide; mask too wide or lacking the top weight"
abbrev pub REGISTER : ℕ
REGISTER = 6

-- "a TS packet doesn't begin 0x47"
abbrev pub SYNC : ℕ
SYNC = 7

-- "some LDPC parity bit is wrong"
abbrev pub PARITY : ℕ
PARITY = 8

-- "BCH bits wrong after dispersal is taken off"
abbrev pub BCH : ℕ
BCH = 9

-- "one of the last two TMCC bits is 1"
abbrev pub TAIL : ℕ
TAIL = 11

-- "a symbol is 2^modulation or more"
abbrev pub LABEL : ℕ
LABEL = 12

-- 02, N1: "unknown modulation or rate, or a count that is 0 or no multiple of 5"
abbrev pub VALUE : ℕ
VALUE = 13

-- 02, N1: "groups not falling"
abbrev pub ORDER : ℕ
ORDER = 14

-- 02, N1: "not 120"
abbrev pub TOTAL : ℕ
TOTAL = 15

-- 02, N2: "a head is wrong, a null body holds another octet, or a head or length runs past the lent packets"
abbrev pub PACKET : ℕ
PACKET = 16

-- 02, N4: "number past the area, wrong mark, edition, sum or a filler not zero"
abbrev pub BLOCK : ℕ
BLOCK = 17

-- 02, N6: "an entry used is infinite or not a number"
abbrev pub COORDINATE : ℕ
COORDINATE = 18
