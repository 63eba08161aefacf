-- `setting_block::put_block`: the sum is that of the octets put before it.
use mathlib.Core.Path.{◌≡◌, ap, ap₂, ◌∙◌}
use mathlib.Core.List.{List, ◌++◌}
use Prim.Native.Nat.{ℕ}
use native.Mathlib.Omega.{arith}
use lib.ListN.{length}
use lib.Seq.{take_at}
use borrow.Author.Rules.{rules}
use borrow.Rule.Slice.PartMut.{put_mid}
use Rattle.lists.specs.PartLaws.{length_part, two_parts}
use Rattle.setting_block.specs.Layout.{edition}
use Rattle.octet_numbers.specs.Numbers.{big_endian, sum_of}
use Rattle.octet_numbers.specs.NumberLaws.{length_big_endian}
use Rattle.setting_block.specs.Blocks.{body, block_of}
use Rattle.setting_block.specs.BlockLaws.{length_body}
use Rattle.setting_block.proofs.blocks.put_block.Goals as goal

pub returns : goal.returns
unfolding block_of
returns c =
    let s = c in
    let a = s.args in
    let x = c.put_body in
    let q = c.sum_of-sum in
    let y = c.put_number in
    let m : length x.new.octets ≡ 510 = ap length x.ensures ∙ length_body edition a.plan a.registers in
    let t : q.result ≡ sum_of (body edition a.plan a.registers)
    = q.ensures ∙ ap sum_of (take_at x.new.octets _ 510 m ∙ x.ensures) in
    let j : y.new.octets ≡ big_endian 2 (sum_of (body edition a.plan a.registers))
    = y.ensures ∙ ap₂ big_endian (length_part 510 512 (put_mid 0 510 a.block.now x.new.octets) (search rules)) t in
    two_parts a.block.now x.new.octets y.new.octets 510 512 s.requires.long (omega arith) m (ap length j ∙ length_big_endian 2 _)
    ∙ ap₂ (λ (u v : List ℕ). u ++ v) x.ensures j
