-- `run_list::write_refusal`: the word, the number and the line feed are written one behind the other.
use Rattle.std.proofs.Common.{arith}
use Rattle.run_list.specs.Listing.{refused_word, refused_text}
use Rattle.texts.specs.Written.{written_then}
use Rattle.run_list.proofs.write_refusal.Goals as goal

pub returns : goal.returns
unfolding refused_text refused_word
returns c = written_then (grind arith) c.put_text-first.ensures (written_then (grind arith) c.put_decimal-last.ensures c.put_text.ensures)
