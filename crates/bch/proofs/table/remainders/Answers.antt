-- `bch::table::remainders`: the constants meet the table's rule, as the checker computes.
use mathlib.Core.Path.{refl}
use Rattle.lists.specs.Count.{table}
use Rattle.bch.specs.Polynomials.{◌⊕◌, coefficient}
use Rattle.bch.specs.Division.{remainder}
use Rattle.bch.proofs.GeneratorLaws.{generator_number}
use Rattle.bch.proofs.table.remainders.Goals as goal

pub returns : goal.returns
unfolding table remainder coefficient ◌⊕◌
returns c = record { rule = rw generator_number refl }
