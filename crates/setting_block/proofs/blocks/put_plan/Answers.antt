-- `setting_block::put_plan`: the count, one octet, and the groups behind it.
use mathlib.Core.Path.{◌≡◌, ap, ap₂, ◌∙◌}
use mathlib.Core.List.{List, ◌++◌}
use Prim.Native.Nat.{ℕ}
use native.Mathlib.Omega.{arith}
use lib.ListN.{length}
use borrow.Author.Rules.{rules}
use Rattle.lists.specs.PartLaws.{length_part, two_parts}
use Rattle.plan_octets.specs.GroupLaws.{length_groups_of}
use Rattle.octet_numbers.specs.Numbers.{big_endian}
use Rattle.octet_numbers.specs.NumberLaws.{length_big_endian}
use Rattle.setting_block.proofs.blocks.put_plan.Goals as goal

pub returns : goal.returns
returns c =
    let s = c in
    let a = s.args in
    let x = c.put_number in
    let y = c.put_groups in
    let i : x.new.octets ≡ big_endian 1 a.plan.count = x.ensures ∙ ap₂ (λ (n v : ℕ). big_endian n v) (length_part 0 1 a.octets.now (search rules)) c.from.ensures in
    two_parts a.octets.now x.new.octets y.new.octets 1 25 s.requires.long (omega arith) (ap length i ∙ length_big_endian 1 _) (ap length y.ensures ∙ length_groups_of a.plan)
    ∙ ap₂ (λ (p q : List ℕ). p ++ q) i y.ensures
