-- TS packets and data octets (document 01, "Rates and slot" and "Refusal list").
use Rattle.std.specs.Prelude.{Bool, ◌&&◌, List, ◌∷◌, ℕ, ◌+◌, ◌*◌, eqb, length, get_or}
use Rattle.lists.specs.Choice.{pick, and_then}
use Rattle.lists.specs.Count.{every, joined}
use Rattle.lists.specs.Parts.{part}
use Rattle.refusal.specs.Numbers.{PLAN, LENGTH, SYNC}
use Rattle.plan.specs.Rates.{rate_ok, data_octets_of, packets_of}

-- "A TS packet comes as 188 octets; its first, 0x47, isn't carried"
abbrev pub sync_octet : ℕ
sync_octet = 0x47

-- packet i without its first octet
abbrev pub carried : List ℕ → ℕ → List ℕ
carried packets i = part (188 * i + 1) (188 * (i + 1)) packets

-- "Packing one slot's packets into data octets": n packets, end to end
unfoldable pub packed : ℕ → List ℕ → List ℕ
packed n packets = joined n (carried packets)

-- packet i, "with 0x47 put back"
abbrev pub restored : List ℕ → ℕ → List ℕ
restored octets i = sync_octet ∷ part (187 * i) (187 * (i + 1)) octets

-- "unpacking with 0x47 put back": n packets, end to end
unfoldable pub unpacked : ℕ → List ℕ → List ℕ
unpacked n octets = joined n (restored octets)

-- whether packet i begins 0x47
abbrev pub begins_sync : List ℕ → ℕ → Bool
begins_sync packets i = eqb (get_or packets (188 * i) 0) sync_octet

-- 1 and 4 of both calls: the rate is known, and packets and data octets, given as their lengths, are those of one slot
unfoldable pub size_number : ℕ → ℕ → ℕ → ℕ
size_number rate packets octets =
    and_then (pick (rate_ok rate) 0 PLAN)
    (pick (eqb packets (188 * packets_of rate) && eqb octets (data_octets_of rate)) 0 LENGTH)

-- "Packing: 1, 4, 7", with the length of the area for the data octets
unfoldable pub pack_number : ℕ → List ℕ → ℕ → ℕ
pack_number rate packets room =
    and_then (size_number rate (length packets) room) (pick (every (packets_of rate) (begins_sync packets)) 0 SYNC)

-- "Unpacking: 1, 4", with the length of the area for the packets
unfoldable pub unpack_number : ℕ → List ℕ → ℕ → ℕ
unpack_number rate octets room = size_number rate room (length octets)
