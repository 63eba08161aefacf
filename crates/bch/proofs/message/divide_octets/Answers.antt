-- `bch::message::divide_octets`: the remainder of the octets passed.
use Rattle.std.proofs.Common.{◌≡◌, sym, ap, ◌∙◌, ℕ, ◌+◌, ◌*◌, take, arith, rules}
use Rattle.std.proofs.Math.Seq.{take_all}
use Rattle.bits.specs.Octets.{bits_of}
use Rattle.bits.specs.OctetLaws.{length_bits_of, bits_of_bits}
use Rattle.bch.specs.Division.{remainder_of}
use Rattle.bch.proofs.MessageLaws.{remainder_of_none}
use Rattle.bch.specs.Bch.{generator}
use Rattle.bch.proofs.Turns.{eight_more, octet_number}
use Rattle.bch.proofs.message.divide_octets.Goals as goal

pub loop-octet-init : goal.loop-octet-init
loop-octet-init c = sym (remainder_of_none 192 generator)

pub advance-rest-requires : goal.advance-rest-requires
advance-rest-requires c = record { table = c.requires; within = search rules }

pub loop-octet-preserved : goal.loop-octet-preserved
loop-octet-preserved c =
    let i = c.loop-octet.octet-index in
    let xs = c.args.octets.now in
    let x = c.from.ensures ∙ octet_number xs i (search rules) (search rules) in
    let e : 8 * (i + 1) ≡ 8 * i + 8 = omega arith in
    let q = eight_more (bits_of xs) (8 * i) _ _ _ (bits_of_bits xs) (omega (arith, length_bits_of xs)) x c.loop-octet.invariant c.advance-rest.ensures in
    q ∙ ap (λ (n : ℕ). remainder_of 192 generator (take n (bits_of xs))) (sym e)

pub returns : goal.returns
returns c =
    let i = c.loop-octet.octet-index in
    let xs = c.args.octets.now in
    c.loop-octet.invariant ∙ ap (remainder_of 192 generator) (take_all (8 * i) (bits_of xs) (omega (arith, length_bits_of xs)))
