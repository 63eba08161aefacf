-- `setting_block::put_register`: two numbers of four octets, one behind the other.
use mathlib.Core.Path.{◌≡◌, ap, ap₂, ◌∙◌}
use mathlib.Core.List.{List, ◌++◌}
use Prim.Native.Nat.{ℕ}
use native.Mathlib.Omega.{arith}
use lib.ListN.{length}
use borrow.Author.Rules.{rules}
use borrow.Rule.Slice.PartMut.{put_mid}
use Rattle.lists.specs.PartLaws.{length_part, two_parts}
use Rattle.octet_numbers.specs.Numbers.{big_endian}
use Rattle.octet_numbers.specs.NumberLaws.{length_big_endian}
use Rattle.setting_block.proofs.blocks.put_register.Goals as goal

pub returns : goal.returns
returns c =
    let s = c in
    let a = s.args in
    let x = c.put_number in
    let y = c.put_number-2 in
    let i : x.new.octets ≡ big_endian 4 a.register.mask = x.ensures ∙ ap (λ (n : ℕ). big_endian n a.register.mask) (length_part 0 4 a.octets.now (search rules)) in
    let j : y.new.octets ≡ big_endian 4 a.register.start = y.ensures ∙ ap (λ (n : ℕ). big_endian n a.register.start) (length_part 4 8 (put_mid 0 4 a.octets.now x.new.octets) (search rules)) in
    two_parts a.octets.now x.new.octets y.new.octets 4 8 s.requires (omega arith) (ap length i ∙ length_big_endian 4 _) (ap length j ∙ length_big_endian 4 _)
    ∙ ap₂ (λ (p q : List ℕ). p ++ q) i j
