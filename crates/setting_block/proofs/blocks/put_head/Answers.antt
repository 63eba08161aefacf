-- `setting_block::put_head`: the mark, the edition, one octet, and the plan behind it.
use mathlib.Core.Path.{◌≡◌, ap, ap₂, ◌∙◌}
use mathlib.Core.List.{List, ◌++◌}
use Prim.Native.Nat.{ℕ}
use native.Mathlib.Omega.{arith}
use lib.ListN.{length}
use borrow.Author.Rules.{rules}
use borrow.Rule.Slice.PartMut.{put_mid}
use Rattle.lists.specs.PartLaws.{length_part, three_parts}
use Rattle.setting_block.specs.Layout.{mark, edition}
use Rattle.octet_numbers.specs.Numbers.{big_endian}
use Rattle.octet_numbers.specs.NumberLaws.{length_big_endian}
use Rattle.setting_block.specs.BlockLaws.{length_plan}
use Rattle.setting_block.proofs.blocks.put_head.Goals as goal

pub returns : goal.returns
returns c =
    let s = c in
    let a = s.args in
    let x = c.copy_from_slice in
    let y = c.put_number in
    let z = c.put_plan in
    let i : x.new.self ≡ mark = x.ensures.after in
    let j : y.new.octets ≡ big_endian 1 edition
    = y.ensures ∙ ap (λ (n : ℕ). big_endian n edition) (length_part 4 5 (put_mid 0 4 a.octets.now x.new.self) (search rules)) in
    three_parts a.octets.now x.new.self y.new.octets z.new.octets 4 5 30 s.requires.long (omega arith) (omega arith)
    (ap length i) (ap length j ∙ length_big_endian 1 edition) (ap length z.ensures ∙ length_plan edition a.plan)
    ∙ ap₂ (λ (p q : List ℕ). p ++ q) i (ap₂ (λ (p q : List ℕ). p ++ q) j z.ensures)
