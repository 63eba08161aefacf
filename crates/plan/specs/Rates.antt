-- Rates and modulations (document 01, "Rates and slot" and "Plan and place").
use Rattle.std.specs.Prelude.{Bool, ◌&&◌, List, [], ◌∷◌, ℕ, ◌-◌, ◌*◌, ◌/◌, leb, get_or}
use Rattle.plan.specs.Sizes.{slot_bits}

-- "Rates are numbered 1 to 11"
abbrev pub rate_ok : ℕ → Bool
rate_ok r = leb 1 r && leb r 11

-- "Their row counts R are 41, 49, 61, 73, 81, 89, 93, 97, 101, 105, 109"; 0 for any other number
abbrev pub row_counts : List ℕ
row_counts = 0 ∷ 41 ∷ 49 ∷ 61 ∷ 73 ∷ 81 ∷ 89 ∷ 93 ∷ 97 ∷ 101 ∷ 105 ∷ 109 ∷ []

unfoldable pub rows_of : ℕ → ℕ
rows_of r = get_or row_counts r 0

-- "data 374 × (R − 1)" bits
unfoldable pub data_bits_of : ℕ → ℕ
data_bits_of r = 374 * (rows_of r - 1)

-- the data octets of a slot
unfoldable pub data_octets_of : ℕ → ℕ
data_octets_of r = data_bits_of r / 8

-- "So data holds 10, 12, .. or 27 packets of 187 octets"
unfoldable pub packets_of : ℕ → ℕ
packets_of r = data_octets_of r / 187

-- "Modulations are numbered by bits in a symbol": 1 to 5
abbrev pub modulation_ok : ℕ → Bool
modulation_ok m = leb 1 m && leb m 5

-- the symbols of a slot
abbrev pub symbols_of : ℕ → ℕ
symbols_of m = slot_bits / m
