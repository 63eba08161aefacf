-- `bch::message::put`: three words, one behind the other.
use mathlib.Core.Path.{◌≡◌}
use borrow.Rule.Slice.PartMut.{put_mid}
use borrow.Author.Rules.{rules}
use Rattle.bits.specs.Digits.{digits}
use Rattle.bch.proofs.Turns.{word_part, words_stored}
use Rattle.bch.proofs.message.put.Goals as goal

pub returns : goal.returns
returns c =
    let third = c in
    let second = third in
    let first = second in
    let s = first in
    let r = s.args.rest in
    let xs = s.args.bch.now in
    let u = first.spread.new.bits in
    let v = second.spread-2.new.bits in
    let w = third.spread-3.new.bits in
    let ys = put_mid 0 64 xs u in
    let zs = put_mid 64 64 ys v in
    let a : u ≡ digits 64 r.high = word_part 0 64 xs u r.high (search rules) first.spread.ensures in
    let b : v ≡ digits 64 r.middle = word_part 64 128 ys v r.middle (search rules) second.spread-2.ensures in
    let d : w ≡ digits 64 r.low = word_part 128 192 zs w r.low (search rules) third.spread-3.ensures in
    words_stored xs u v w r.high r.middle r.low s.requires (search rules) (search rules) a b d
