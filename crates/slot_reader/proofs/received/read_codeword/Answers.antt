-- `slot_reader::received::read_codeword`: the word reader is lent the parts that a codeword of the slot's rate takes.
use Rattle.slot.proofs.AreaLaws.{areas}
use Rattle.slot_reader.proofs.received.read_codeword.Goals as goal

pub read_word-requires : goal.read_word-requires
read_word-requires c =
    let h = c in
    let s = h in
    let a = s.args in
    rw h.shape.ensures (record { checked = areas a.rows a.table.now a.coded.now a.bits.now a.input.now a.sums.now s.requires.checked; held = s.requires.held })

pub returns : goal.returns
returns c =
    let w = c in
    rw w.shape.ensures at w.read_word.ensures
