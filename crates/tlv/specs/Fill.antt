-- Filling slots with TLV packets (document 02, N2): the stream that is cut into slots, what begins in it, and what is told.
use Rattle.std.specs.Prelude.{Bool, not, ◌&&◌, List, [], ◌∷◌, ℕ, ◌+◌, ◌-◌, ◌*◌, ◌%◌, min, eqb, ltb, length, get_or}
use Rattle.lists.specs.Choice.{pick}
use Rattle.lists.specs.Count.{first, table}
use Rattle.tlv.specs.Packets.{head_at}

-- "empty null packets (7F FF 00 00) fill up"
abbrev pub filler : List ℕ
filler = 0x7F ∷ 0xFF ∷ 0x00 ∷ 0x00 ∷ []

-- "When packets run out, empty null packets .. fill up": octet j of the packets and, behind them, of fillers without end
unfoldable pub sent_at : List ℕ → ℕ → ℕ
sent_at packets j = pick (ltb j (length packets)) (get_or packets j 0) (get_or filler ((j - length packets) % 4) 0)

-- whether a packet or a filler begins there
unfoldable pub sent_begins : List ℕ → ℕ → Bool
sent_begins packets j = pick (ltb j (length packets)) (head_at packets j) (eqb ((j - length packets) % 4) 0)

-- "how many of their octets were taken before and how many filler octets (0 to 3) are owed, and puts the owed ones first":
-- octet i of the slots
unfoldable pub stream_at : List ℕ → ℕ → ℕ → ℕ → ℕ
stream_at packets taken owed i = pick (ltb i owed) (get_or filler (4 - owed + i) 0) (sent_at packets (taken + (i - owed)))

-- whether a packet or a filler begins at octet i of the slots; the owed one began before
unfoldable pub stream_begins : List ℕ → ℕ → ℕ → ℕ → Bool
stream_begins packets taken owed i = not (ltb i owed) && sent_begins packets (taken + (i - owed))

-- "fills lent slots of the group, data octets only, end to end": the T octets of the slots
unfoldable pub filled : List ℕ → ℕ → ℕ → ℕ → List ℕ
filled packets taken owed T = table T (stream_at packets taken owed)

-- 65535 stands for no octet, in a report and as the first octet to read
abbrev pub none : ℕ
none = 65535

-- "For each slot we want the octet where the first packet or filler begins, or 65535": slot k of D octets, where b says what
-- begins
unfoldable pub report : ℕ → (ℕ → Bool) → ℕ → ℕ
report D b k = pick (ltb (first D (λ i. b (D * k + i))) D) (first D (λ i. b (D * k + i))) none

-- the reports of n slots
unfoldable pub reports : ℕ → ℕ → List ℕ → ℕ → ℕ → List ℕ
reports D n packets taken owed = table n (report D (stream_begins packets taken owed))

-- "how many octets were taken in all", after T octets of slots
unfoldable pub taken_after : List ℕ → ℕ → ℕ → ℕ → ℕ
taken_after packets taken owed T = min (length packets) (taken + (T - owed))

-- the octets that a filler lacks of which m octets, or whole fillers and m octets, are there
abbrev pub lacking : ℕ → ℕ
lacking m = (4 - m % 4) % 4

-- "and how many of a cut filler are owed"
unfoldable pub owed_after : List ℕ → ℕ → ℕ → ℕ → ℕ
owed_after packets taken owed T = lacking (taken + (T - owed) - length packets)
