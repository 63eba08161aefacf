-- `tmcc_reader::put_source`: two zeros behind the TMCC bits fill their last octet.
use mathlib.Core.Path.{◌≡◌, refl, ap, ap₂, ◌∙◌}
use mathlib.Core.List.{List, ◌++◌}
use Prim.Native.Nat.{ℕ}
use native.Mathlib.Omega.{arith}
use borrow.Rule.Slice.PartMut.{put_mid}
use lib.ListN.{length, take, replicate, length-append}
use lib.Seq.{length-take-le}
use Rattle.lists.specs.PartLaws.{length_part, put_lent, take_put_end}
use Rattle.lists.specs.Parts.{part}
use Rattle.lists.specs.RunLaws.{below_take, below_append, below_replicate}
use Rattle.bits.specs.Octets.{octets_of}
use Rattle.codeword.specs.Reading.{message_in}
use Rattle.tmcc.specs.Blocks.{block_shape, tailed}
use Rattle.tmcc_reader.proofs.put_source.Goals as goal

-- the TMCC bits, with two zeros put behind them
held : (run zeros : List ℕ) → length run ≡ 9614 → zeros ≡ replicate (length (part 9422 9424 run)) 0 → take 9424 (put_mid 9422 2 run zeros) ≡ message_in block_shape run ++ replicate 2 0
held run zeros l e =
    let d : zeros ≡ replicate 2 0 = e ∙ ap (λ (n : ℕ). replicate n 0) (length_part 9422 9424 run (omega arith)) in
    ap (λ (z : List ℕ). take 9424 (put_mid 9422 2 run z)) d
    ∙ ap (take 9424) (put_lent 9422 9424 run (replicate 2 0) (omega arith) refl)
    ∙ take_put_end 9422 (replicate 2 0) run (omega arith)

pub collect-requires : goal.collect-requires
collect-requires c =
    let u = c.args.run.now in
    let q = c.requires.here in
    let h = held u c.fill.new.self q.long (c.fill.ensures.after (λ y e. e)) in
    record {
      eights = ap length h ∙ length-append (message_in block_shape u) (replicate 2 0) ∙ omega (arith, length-take-le 9422 u (omega (arith, q.long)), c.requires.source_long);
      bits = rw h (below_append 1 (message_in block_shape u) (replicate 2 0) (below_take 1 9422 u q.bits) (below_replicate 1 2 0 (omega arith)));
    }

pub returns : goal.returns
unfolding tailed
returns c =
    let h = held c.args.run.now c.fill.new.self c.requires.here.long (c.fill.ensures.after (λ y e. e)) in
    c.collect.ensures ∙ ap₂ octets_of c.requires.source_long h
