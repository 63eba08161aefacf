-- `bch::message::divide_bits`: the remainder of the bits passed; whole eights are left.
use Rattle.std.proofs.Common.{◌≡◌, ℕ, ◌-◌, ◌%◌, ◌≤◌, List, length, take, drop}
use Rattle.std.specs.declared.slice.ChunksExact.{ChunksExact}
use Rattle.std.specs.Slice.Iter.{chunks_exact_rest, chunks_exact_size}
use Rattle.bch.specs.Division.{remainder_of}
use Rattle.bch.specs.Bch.{generator}
use Rattle.bch.specs.declared.division.Words.{Words}
use Rattle.bch.specs.Words.{worth}
use Rattle.bch.proofs.message.divide_bits.Given as goal

pub record Inv (run : List ℕ) (eights : ChunksExact ℕ) (rest : Words) : Type 0 where
  pub at : ℕ
  pub passed : at ≤ length run
  pub whole : (length run - at) % 8 ≡ 0
  pub by : chunks_exact_size eights ≡ 8
  pub left : chunks_exact_rest eights ≡ drop at run
  pub done : worth rest ≡ remainder_of 192 generator (take at run)

abbrev pub invariant-loop-eight : goal.invariant-loop-eight
invariant-loop-eight l = Inv l.run l.eight-iterator l.rest
