-- `slot_reader::received::take_source`: the octets of the bits before the BCH bits, and the number of those behind them.
use mathlib.Core.Path.{◌≡◌, ap₂, ◌∙◌}
use Prim.Native.Nat.{◌+◌, ◌-◌}
use native.Mathlib.Omega.{arith}
use lib.ListN.{length}
use lib.Seq.{length-take-le}
use Rattle.lists.specs.Parts.{part}
use Rattle.lists.specs.PartLaws.{length_part, part_rest, take_lent}
use Rattle.lists.specs.RunLaws.{below_take, below_part, below_drop}
use Rattle.bits.specs.Digits.{number}
use Rattle.bits.specs.DigitLaws.{number_lt}
use Rattle.bits.specs.Octets.{octets_of}
use Rattle.codeword.specs.Reading.{tail_in}
use Rattle.slot.specs.Slots.{message_bits, slot_shape}
use Rattle.slot.proofs.SlotLaws.{sizes}
use Rattle.slot_reader.proofs.received.take_source.Goals.{After-gather}
use Rattle.slot_reader.proofs.received.take_source.Goals as goal

-- the stuff bits as a number
stuffed : (c : After-gather)
    → let a = c.args in
    c.gather.result ≡ number 6 (tail_in (slot_shape a.rows) a.plain.now)
stuffed c =
    let k = c in
    let s = k in
    let u = s.args.plain.now in
    let m = k.message_bits-message.result in
    let n : length (part (m + 192) (length u) u) ≡ 6 = length_part (m + 192) (length u) u (omega arith) ∙ omega (arith, k.message_bits-message.ensures, s.requires.all) in
    c.gather.ensures ∙ rw (n, part_rest (m + 192) u, k.message_bits-message.ensures)

pub collect-requires : goal.collect-requires
collect-requires c =
    let k = c in
    let s = k in
    let u = s.args.plain.now in
    let m = k.message_bits-message.result in
    let z = sizes _ s.requires.rate in
    let e = k.message_bits-message.ensures in
    record {
      eights = length-take-le (m - 0) u (omega (arith, s.requires.all)) ∙ omega (arith, z.source, s.requires.long);
      bits = below_take 1 (m - 0) u s.requires.bits;
    }

pub gather-requires : goal.gather-requires
gather-requires c =
    let k = c in
    let s = k in
    let u = s.args.plain.now in
    let m = k.message_bits-message.result in
    record {
      few = omega (arith, length_part (m + 192) (length u) u (omega arith), k.message_bits-message.ensures, s.requires.all);
      bits = below_part 1 (m + 192) (length u) u s.requires.bits;
    }

pub overflow_cast-result : goal.overflow_cast-result
overflow_cast-result c =
    let s = c in
    let u = tail_in (slot_shape s.args.rows) s.args.plain.now in
    omega (arith, stuffed c, number_lt 6 u (below_drop 1 (message_bits s.args.rows + 192) s.args.plain.now s.requires.bits))

pub returns : goal.returns
returns c =
    let o = c in
    let k = o in
    let s = k in
    let a = s.args in record { value = stuffed c; source_after = o.collect.ensures ∙ ap₂ octets_of s.requires.long (take_lent _ (message_bits a.rows) a.plain.now k.message_bits-message.ensures) }
