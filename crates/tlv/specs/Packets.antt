-- TLV packets (document 02, N2; document 002, Table 2.3-3), in octets that are given by their position.
use Rattle.std.specs.Prelude.{Bool, false, not, ◌&&◌, ◌||◌, List, ℕ, zero, suc, ◌+◌, ◌-◌, ◌*◌, eqb, leb, ltb, length, get_or}
use Rattle.lists.specs.Count.{every, table}

-- the octets of a list
abbrev pub octets : List ℕ → ℕ → ℕ
octets xs i = get_or xs i 0

-- "Types are 0x01, 0x02, 0x03, 0xFE, 0xFF"
unfoldable pub type_ok : ℕ → Bool
type_ok t = eqb t 0x01 || (eqb t 0x02 || (eqb t 0x03 || (eqb t 0xFE || eqb t 0xFF)))

-- "0x7F, a type octet": the head at p is right
unfoldable pub head_ok : (ℕ → ℕ) → ℕ → Bool
head_ok o p = eqb (o p) 0x7F && type_ok (o (p + 1))

-- "a 16-bit length, the body": the octets of head and body of the packet at p
unfoldable pub size_at : (ℕ → ℕ) → ℕ → ℕ
size_at o p = 4 + (256 * o (p + 2) + o (p + 3))

-- "a type 0xFF body is all 0xFF"
unfoldable pub body_ok : (ℕ → ℕ) → ℕ → Bool
body_ok o p = not (eqb (o (p + 1)) 0xFF) || every (size_at o p - 4) (λ i. eqb (o (p + 4 + i)) 0xFF)

-- "empty null packets (7F FF 00 00)": the packet at p is one
unfoldable pub empty_null : (ℕ → ℕ) → ℕ → Bool
empty_null o p = eqb (o (p + 1)) 0xFF && eqb (size_at o p) 4

-- the m octets from p on
abbrev pub run : (ℕ → ℕ) → ℕ → ℕ → List ℕ
run o p m = table m (λ i. o (p + i))

-- "a head is wrong, a null body holds another octet, or a head or length runs past the lent packets", none of these: the
-- octets from h to L are right packets end to end, f of them at most
unfoldable pub packets_from : (ℕ → ℕ) → ℕ → ℕ → ℕ → Bool
packets_from o L zero h = eqb h L
packets_from o L (suc f) h =
    eqb h L
    || (leb (h + 4) L && (head_ok o h && (leb (h + size_at o h) L && (body_ok o h && packets_from o L f (h + size_at o h)))))

abbrev pub packets_ok : List ℕ → Bool
packets_ok packets = packets_from (octets packets) (length packets) (length packets) 0

-- whether one of the packets end to end from h on, f of them at most, begins at j
unfoldable pub head_from : (ℕ → ℕ) → ℕ → ℕ → ℕ → Bool
head_from o zero h j = false
head_from o (suc f) h j = eqb h j || (ltb h j && head_from o f (h + size_at o h) j)

-- "The lent packets begin at a head": whether one of them begins at j
abbrev pub head_at : List ℕ → ℕ → Bool
head_at packets j = head_from (octets packets) (length packets) 0 j
