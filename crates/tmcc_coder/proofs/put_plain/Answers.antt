-- `tmcc_coder::put_plain`: the BCH bits stand behind the TMCC bits.
use mathlib.Core.Path.{◌≡◌, sym, ap, ap₂, ◌∙◌, subst}
use mathlib.Core.List.{List, ◌++◌, append-nil}
use Prim.Native.Nat.{ℕ}
use native.Mathlib.Omega.{arith}
use lib.ListN.{length, take}
use lib.Seq.{take-append-le}
use borrow.Rule.Slice.PartMut.{put_mid, post_of, same_len_mid}
use Rattle.lists.specs.Runs.{Bits}
use Rattle.bits.specs.Octets.{bits_of}
use Rattle.bits.specs.OctetLaws.{length_bits_of}
use Rattle.bch.specs.Bch.{bch_bits}
use Rattle.codeword.specs.Words.{plain}
use Rattle.tmcc.specs.Blocks.{message_of, source_octets, message_bits}
use Rattle.tmcc.proofs.BlockLaws.{message}
use Rattle.tmcc_coder.proofs.put_plain.Goals as goal

-- the TMCC bits at the head of an area, where the bits of the octets were put
held : (source run made front : List ℕ) → length source ≡ source_octets → made ≡ bits_of source → front ≡ take message_bits (put_mid 0 9424 run made) → front ≡ message_of source
unfolding message_of
held source run made front l e f =
    let n : length made ≡ 9424 = ap length e ∙ length_bits_of source ∙ omega (arith, l) in
    f ∙ take-append-le message_bits made (post_of 0 9424 run) (omega (arith, n)) ∙ ap (take message_bits) e

pub of_bits-requires : goal.of_bits-requires
of_bits-requires c =
    let s = c.args.source.now in
    let h = held s c.args.run.now c.expand.new.bits _ c.requires.source_long c.expand.ensures c.split_at_mut-message.ensures.front in
    record { bits = subst Bits (sym h) (message s c.requires.source_long).bits; area = omega (arith, c.split_at_mut-message.ensures.back_len, same_len_mid 0 9424 c.args.run.now c.expand.new.bits c.expand.auto.bits, c.requires.room) }

pub returns : goal.returns
unfolding plain
returns c =
    let s = c.args.source.now in
    let h = held s c.args.run.now c.expand.new.bits _ c.requires.source_long c.expand.ensures c.split_at_mut-message.ensures.front in
    ap₂ (λ (u v : List ℕ). u ++ v) h (c.of_bits.ensures ∙ ap bch_bits h ∙ sym (append-nil _))
