-- `dispersal::run::disperse_parts`: the run is dispersed in two parts.
use Rattle.std.proofs.Common.{arith}
use Rattle.dispersal.specs.RegisterLaws.{after_lt}
use Rattle.dispersal.proofs.TwoParts.{after_both, both_parts}
use Rattle.dispersal.proofs.run.disperse_parts.Goals as goal

pub disperse_bits-requires : goal.disperse_bits-requires
disperse_bits-requires c =
    let s = c.args.steps.now in
    record { low = omega arith; high = s.high; small = rw c.disperse_eights-held.ensures.value (after_lt _ _ _ _ c.requires) }

pub returns : goal.returns
returns c =
    let a = c.args in
    let s = a.steps.now in
    let h = c.disperse_eights-held.ensures in
    let d = c.disperse_bits.ensures in
    let e = c.split_at_mut-eights.ensures.value in
    record {
      value = after_both s.width s.mask a.register _ a.run.now _ _ e h.value _ d.value;
      run_after = both_parts s.width s.mask a.register _ a.run.now _ _ e h.value _ _ h.run_after d.run_after;
    }
