-- `setting_block::put_registers`: both registers, one behind the other.
use mathlib.Core.Path.{◌≡◌, ap, ap₂, ◌∙◌}
use mathlib.Core.List.{List, ◌++◌, append_assoc}
use Prim.Native.Nat.{ℕ}
use native.Mathlib.Omega.{arith}
use lib.ListN.{length, length-append}
use Rattle.lists.specs.PartLaws.{two_parts}
use Rattle.octet_numbers.specs.Numbers.{big_endian}
use Rattle.octet_numbers.specs.NumberLaws.{length_big_endian}
use Rattle.setting_block.proofs.blocks.put_registers.Goals as goal

eight : (m s : ℕ) → length (big_endian 4 m ++ big_endian 4 s) ≡ 8
eight m s = length-append (big_endian 4 m) (big_endian 4 s) ∙ omega (arith, length_big_endian 4 m, length_big_endian 4 s)

pub returns : goal.returns
returns c =
    let s = c in
    let g = s.args.registers in
    let x = c.put_register in
    let y = c.put_register-2 in
    two_parts s.args.octets.now x.new.octets y.new.octets 8 16 s.requires (omega arith) (ap length x.ensures ∙ eight _ _) (ap length y.ensures ∙ eight _ _)
    ∙ ap₂ (λ (p q : List ℕ). p ++ q) x.ensures y.ensures
    ∙ append_assoc (big_endian 4 g.slots.mask) (big_endian 4 g.slots.start) (big_endian 4 g.tmcc.mask ++ big_endian 4 g.tmcc.start)
