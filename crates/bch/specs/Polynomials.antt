-- Polynomials over GF(2): a number whose binary digits are the coefficients, digit k that of the k-th power.
use Rattle.std.specs.Prelude.{◌≡◌, List, [], ◌∷◌, ℕ, zero, suc, ◌*◌, ◌/◌, ◌%◌, ◌^◌, length}
use Rattle.std.specs.Int.Bits.{bit_xor}
use Rattle.bits.specs.Digits.{number}

infixl 65 ◌⊕◌
infixl 70 ◌⊗◌
-- the sum, and so the difference
unfoldable pub ◌⊕◌ : ℕ → ℕ → ℕ
a ⊕ b = bit_xor a b

-- the product with the k lowest coefficients of a
unfoldable pub low_times : ℕ → ℕ → ℕ → ℕ
low_times zero a b = 0
low_times (suc k) zero b = 0
low_times (suc k) (suc a) b = low_times k (suc a / 2) b * 2 ⊕ suc a % 2 * b

-- the product: a has no more than a coefficients
unfoldable pub ◌⊗◌ : ℕ → ℕ → ℕ
a ⊗ b = low_times a a b

-- the coefficient of the k-th power
unfoldable pub coefficient : ℕ → ℕ → ℕ
coefficient k d = d / 2 ^ k % 2

-- d is a multiple of g
unfoldable pub Divides : ℕ → ℕ → Type 0
Divides g d = (h : ℕ) × (h ⊗ g ≡ d)

-- the polynomial with these exponents
unfoldable pub with_exponents : List ℕ → ℕ
with_exponents [] = 0
with_exponents (e ∷ es) = 2 ^ e ⊕ with_exponents es

-- the product of all of them
unfoldable pub product : List ℕ → ℕ
product [] = 1
product (p ∷ ps) = p ⊗ product ps

-- a run of bits as a polynomial (document 01: "first bit the highest power")
unfoldable pub polynomial_of : List ℕ → ℕ
polynomial_of u = number (length u) u
