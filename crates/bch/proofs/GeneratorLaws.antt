-- The generator, computed: its number, its degree and its constant term.
use Rattle.std.specs.Prelude.{◌≡◌, refl, ◌/◌, ◌%◌, ◌^◌}
use Rattle.bch.specs.Polynomials.{◌⊕◌, ◌⊗◌, low_times, with_exponents, product}
use Rattle.bch.specs.Bch.{exponents, generator}

pub generator_number : generator ≡ 0x13b92f15b3078b68d77aa6c59656e8a4cfba9211137981c4b
unfolding generator exponents product with_exponents ◌⊗◌ low_times ◌⊕◌
generator_number = refl

-- degree 192
pub generator_top : generator / 2 ^ 192 ≡ 1
generator_top = rw generator_number

-- the constant term 1
pub generator_last : generator % 2 ≡ 1
generator_last = rw generator_number
