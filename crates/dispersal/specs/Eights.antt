-- The register eight steps on at once: the masks of the feedback bits, and the bits.
use Rattle.std.specs.Prelude.{List, ℕ, zero, suc, ◌+◌, ◌*◌, ◌/◌, ◌%◌, ◌^◌, get_or}
use Rattle.std.specs.Int.Bits.{bit_and, bit_xor}
use Rattle.std.specs.Int.Count.{ones}
use Rattle.lists.specs.Count.{table}

-- a register after a step shares with m as many ones modulo 2 as it did before the step with this
unfoldable pub drawn : ℕ → ℕ → ℕ
drawn mask m = bit_xor (m / 2) (m % 2 * mask)

-- the mask of the feedback n steps on
unfoldable pub mask_at : ℕ → ℕ → ℕ
mask_at mask zero = mask
mask_at mask (suc n) = drawn mask (mask_at mask n)

-- those of eight steps, of the mask cut to the width
unfoldable pub masks_of : ℕ → ℕ → List ℕ
masks_of w mask = table 8 (mask_at (mask % 2 ^ w))

-- the feedback bits of n steps as a number, by masks for the register as it stands
unfoldable pub feedback : List ℕ → ℕ → ℕ → ℕ
feedback t r zero = 0
feedback t r (suc n) = feedback t r n * 2 + ones (bit_and r (get_or t n 0)) % 2
