-- `texts::put_text`: the part that was lent is the text.
use Rattle.std.proofs.Common.{refl, arith}
use Rattle.lists.specs.PartLaws.{put_lent}
use Rattle.texts.specs.Written.{written}
use Rattle.texts.proofs.put_text.Goals as goal

pub returns : goal.returns
returns c =
    let a = c.args in
    let r = c.requires.room in
    written a.text.now a.at a.out.now _ _ (omega arith)
    (rw c.copy.ensures (put_lent a.at _ a.out.now a.text.now (omega arith) (omega arith))) refl
