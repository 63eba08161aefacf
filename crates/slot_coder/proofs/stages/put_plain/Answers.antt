-- `slot_coder::put_plain`: the three runs stand one behind the other.
use Rattle.std.proofs.Common.{◌≡◌, ℕ, List, ◌++◌, ap, ap₂, ◌∙◌, arith, replicate, length}
use Rattle.slot.proofs.SlotLaws.{sizes}
use Rattle.codeword.specs.Words.{plain}
use Rattle.slot_coder.proofs.stages.put_plain.Goals as goal

pub expand-requires : goal.expand-requires
expand-requires c =
    let z = sizes c.args.rows c.requires.rows in
    omega (arith, c.split_at_mut-message.ensures.front_len, c.message_bits.ensures, z.source, c.requires.source_long)

pub returns : goal.returns
unfolding plain
returns c =
    let z = sizes c.args.rows c.requires.rows in
    let six : length c.split_at_mut-check.result.1.now ≡ 6 = omega (arith, c.split_at_mut-message.ensures.back_len, c.split_at_mut-check.ensures.back_len, c.message_bits.ensures, c.requires.bits_long, z.covered) in
    ap₂ (λ (p q : List ℕ). p ++ q) c.expand.ensures
    (ap₂ (λ (p q : List ℕ). p ++ q) c.of_octets.ensures (c.fill.ensures.after (λ y e. e) ∙ ap (λ (l : ℕ). replicate l 1) six))
