-- The table's rule at one octet.
use Rattle.std.proofs.Common.{◌≡◌, sym, ap, ◌∙◌, List, ℕ, ◌*◌, ◌^◌, ◌<◌, length, get_or, arith}
use Rattle.std.proofs.lemmas.List.{get_or-map, length-map}
use Rattle.lists.specs.CountLaws.{length_table, get_or_table}
use Rattle.bch.specs.Division.{remainder}
use Rattle.bch.specs.Bch.{generator}
use Rattle.bch.specs.declared.division.Words.{Words}
use Rattle.bch.specs.Words.{worth, Table}

pub entry_rule : (t : List Words) (i : ℕ) (w : Words) → Table t → i < 256 → worth (get_or t i w) ≡ remainder 192 generator 8 (i * 2 ^ 192)
entry_rule t i w r h =
    let f : ℕ → ℕ = λ k. remainder 192 generator 8 (k * 2 ^ 192) in
    let l : length t ≡ 256 = sym (length-map t worth) ∙ ap length r.rule ∙ length_table 256 f in
    sym (get_or-map worth t i w 0 (omega arith)) ∙ ap (λ (l : List ℕ). get_or l i 0) r.rule ∙ get_or_table 256 f i h
