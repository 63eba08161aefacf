-- `setting_block::put_body`: head, registers, and zeros behind them.
use mathlib.Core.Path.{◌≡◌, ap, ap₂, ◌∙◌}
use mathlib.Core.List.{List, ◌++◌}
use Prim.Native.Nat.{ℕ}
use native.Mathlib.Omega.{arith}
use lib.ListN.{length, replicate, length-replicate}
use borrow.Author.Rules.{rules}
use borrow.Rule.Slice.PartMut.{put_mid}
use Rattle.lists.specs.PartLaws.{length_part, three_parts}
use Rattle.setting_block.specs.Layout.{edition}
use Rattle.setting_block.specs.Blocks.{body}
use Rattle.setting_block.specs.BlockLaws.{length_head, length_registers}
use Rattle.setting_block.proofs.blocks.put_body.Goals as goal

pub returns : goal.returns
unfolding body
returns c =
    let s = c in
    let a = s.args in
    let x = c.put_head in
    let y = c.put_registers in
    let z = c.fill in
    let k : z.new.self ≡ replicate 464 0
    = z.ensures.after (λ y e. search rules) ∙ ap (λ (n : ℕ). replicate n 0) (length_part 46 510 (put_mid 30 16 (put_mid 0 30 a.octets.now x.new.octets) y.new.octets) (search rules)) in
    three_parts a.octets.now x.new.octets y.new.octets z.new.self 30 46 510 s.requires.long (omega arith) (omega arith)
    (ap length x.ensures ∙ length_head edition a.plan) (ap length y.ensures ∙ length_registers edition a.registers) (ap length k ∙ length-replicate {A = ℕ} 464 0)
    ∙ ap₂ (λ (p q : List ℕ). p ++ q) x.ensures (ap₂ (λ (p q : List ℕ). p ++ q) y.ensures k)
