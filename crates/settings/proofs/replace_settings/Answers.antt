-- `settings::replace_settings`: the block lies within an accepted card, and takes its place.
use Rattle.std.proofs.Common.{◌≡◌, sym, ap, ◌∙◌, ℕ, ◌+◌, ◌*◌, ◌-◌, List, length, arith, rules}
use Rattle.lists.specs.ChoiceLaws.{then_zero}
use Rattle.lists.specs.Parts.{put}
use Rattle.lists.specs.PartLaws.{length_part, put_lent}
use Rattle.refusal.specs.AnswerLaws.{accepted}
use Rattle.plan_octets.specs.GroupLaws.{accepted_fits}
use Rattle.plan.specs.declared.Plan.{Plan}
use Rattle.setting_block.specs.declared.Registers.{Registers}
use Rattle.setting_block.specs.Layout.{edition}
use Rattle.setting_block.specs.Blocks.{block_of, setting_number}
use Rattle.setting_block.specs.BlockLaws.{length_block, sound}
use Rattle.settings.specs.Cards.{card_number, replace_number, replaced}
use Rattle.settings.proofs.CardLaws.{There, there}
use Rattle.settings.proofs.replace_settings.Goals as goal

-- what an accepted replacement has
free : (octets n : ℕ) (p : Plan) (r : Registers) → 0 ≡ replace_number octets n p r → There octets n × (setting_number p r ≡ 0)
unfolding replace_number
free octets n p r e =
    let z = then_zero (card_number octets n) (setting_number p r) (sym e) in
    (there octets n z.0, z.1)

pub overflow_mul-at : goal.overflow_mul-at
overflow_mul-at c = let f = free _ _ _ _ c.in_ok-check_replacement.ensures in omega (arith, f.0.room, f.0.low)

pub overflow_add-at : goal.overflow_add-at
overflow_add-at c = let f = free _ _ _ _ c.in_ok-check_replacement.ensures in omega (arith, f.0.room, f.0.low)

pub slice_bounds-put_block-end : goal.slice_bounds-put_block-end
slice_bounds-put_block-end c = let h = (free _ _ _ _ c.in_ok-check_replacement.ensures).0.room in search rules

pub put_block-requires : goal.put_block-requires
put_block-requires c =
    let a = c.args in
    let f = free _ _ _ _ c.in_ok-check_replacement.ensures in
    record {
      fits = accepted_fits a.plan (sound a.plan a.registers f.1).plan;
      long = length_part (512 * a.number) (512 * a.number + 512) a.card.now f.0.room ∙ omega arith;
    }

pub returns : goal.returns
unfolding replaced
returns c =
    let a = c.args in
    let b = c.put_block in
    let l : length (block_of edition a.plan a.registers) ≡ 512 * a.number + 512 - 512 * a.number = length_block edition a.plan a.registers ∙ omega arith in
    accepted _ _ _ _ (sym c.in_ok-check_replacement.ensures)
    (put_lent (512 * a.number) (512 * a.number + 512) a.card.now _ (omega arith) (ap length b.ensures ∙ l) ∙ ap (λ (ys : List ℕ). put (512 * a.number) ys a.card.now) b.ensures)
