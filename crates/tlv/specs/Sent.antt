-- What arrives of the lent packets in n slots of D data octets, some lost (document 02, N2): what a reader is to find.
use Rattle.std.specs.Prelude.{Bool, not, ◌&&◌, List, [], ℕ, ◌+◌, ◌-◌, ◌*◌, leb, ltb, length}
use Rattle.lists.specs.Choice.{pick}
use Rattle.lists.specs.Count.{first, joined}
use Rattle.lists.specs.Parts.{part}
use Rattle.tlv.specs.Packets.{octets, size_at, empty_null, head_at}
use Rattle.tlv.specs.Fill.{stream_at, stream_begins}
use Rattle.tlv.specs.Read.{meets}

-- of slots' octets o, in which b says what begins: a packet or filler begins at i and touches no lost slot
unfoldable pub untouched : ℕ → ℕ → List ℕ → (ℕ → ℕ) → (ℕ → Bool) → ℕ → Bool
untouched D n lost o b i = b i && not (ltb (meets D n lost i (i + size_at o i)) n)

-- it also runs past the slots
unfoldable pub cut_at : ℕ → ℕ → List ℕ → (ℕ → ℕ) → (ℕ → Bool) → ℕ → Bool
cut_at D n lost o b i = untouched D n lost o b i && ltb (D * n) (i + size_at o i)

module _ (D n : ℕ) (lost packets : List ℕ) (taken owed : ℕ) where
  -- the packet at octet j of those lent, where it was not taken before, lies whole in the slots, touches no lost slot and is
  -- no empty null; octet j stands in the slots at owed + (j - taken)
  unfoldable pub sent_packet : ℕ → List ℕ
  sent_packet j =
      pick
      (leb taken j
      && (head_at packets j
      && (not (ltb (meets D n lost (owed + (j - taken)) (owed + (j - taken) + size_at (octets packets) j)) n)
      && (leb (owed + (j - taken) + size_at (octets packets) j) (D * n) && not (empty_null (octets packets) j)))))
      (part j (j + size_at (octets packets) j) packets)
      []

  -- "Reading returns the packets in order without empty nulls, the caller's own included"
  abbrev pub sent_packets : List ℕ
  sent_packets = joined (length packets) sent_packet

  -- "where in the lent slots an unfinished last packet or null begins (the slots' length if none)"
  abbrev pub sent_cut : ℕ
  sent_cut = first (D * n) (cut_at D n lost (stream_at packets taken owed) (stream_begins packets taken owed))

-- every packet from `taken` on that is no empty null
unfoldable pub plain_packet : List ℕ → ℕ → ℕ → List ℕ
plain_packet packets taken j =
    pick (leb taken j && (head_at packets j && not (empty_null (octets packets) j))) (part j (j + size_at (octets packets) j) packets) []
