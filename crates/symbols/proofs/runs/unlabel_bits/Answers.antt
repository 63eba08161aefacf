-- `symbols::unlabel_bits`: the bits at the places passed stand where they belong.
use mathlib.Core.Path.{◌≡◌, refl}
use native.Mathlib.Omega.{arith}
use lib.ListN.{length}
use borrow.Author.Rules.{rules}
use Rattle.symbols.proofs.Turns.{strided, placed_more, placed_all}
use Rattle.symbols.proofs.runs.unlabel_bits.Goals as goal

pub put_place-requires : goal.put_place-requires
put_place-requires c =
    let l = c.loop-place in
    let a = c.args in
    record {
      few = omega (arith, c.requires.known.high);
      strided = rw (c.first_bit-start.ensures, l.invariant.stride) (strided a.modulation _ a.leftward l.run a.labels.now l.place c.requires.known l.invariant.done.long refl (search rules));
    }

pub loop-place-preserved : goal.loop-place-preserved
loop-place-preserved c =
    let l = c.loop-place in
    let a = c.args in
    let u = a.labels.now in
    let p = rw (c.first_bit-start.ensures, l.invariant.stride) at c.put_place.ensures in
    record { passed = search rules; stride = l.invariant.stride; done = placed_more a.modulation (length u) a.leftward u l.run _ l.place _ (search rules) l.invariant.done p (omega arith) }

pub returns : goal.returns
returns c =
    let l = c.loop-place in
    let a = c.args in
    let e : l.place ≡ a.modulation = omega arith in
    placed_all a.modulation _ a.leftward a.labels.now l.run (rw e at l.invariant.done)
