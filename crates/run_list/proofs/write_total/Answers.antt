-- `run_list::write_total`: words and numbers are written one behind the other.
use Rattle.std.proofs.Common.{arith}
use Rattle.run_list.specs.Listing.{kind_word, total_word, data_word, total_line}
use Rattle.texts.specs.DecimalLaws.{length_field}
use Rattle.texts.specs.Written.{written_then}
use Rattle.run_list.proofs.write_total.Goals as goal

pub returns : goal.returns
unfolding total_line total_word data_word kind_word
returns c =
    written_then (grind arith) c.put_text-first.ensures
    (written_then (grind (arith, length_field)) c.put_field-word.ensures
    (written_then (grind (arith, length_field)) c.put_text-second.ensures
    (written_then (grind (arith, length_field)) c.put_field-last.ensures c.put_text.ensures)))
