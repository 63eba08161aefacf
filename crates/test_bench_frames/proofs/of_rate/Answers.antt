-- `test_bench_frames::of_rate`: the areas have the lengths that they are made with.
use Rattle.std.proofs.Common.{arith}
use Rattle.test_bench_frames.specs.Areas.{Room}
use Rattle.test_bench_frames.proofs.of_rate.Goals as goal

pub with_areas-requires : goal.with_areas-requires
with_areas-requires g c = record {
  numbers = omega (arith, c.deref_mut.ensures.len, c.in_ok-table.ensures.len);
  octets = omega (arith, c.deref_mut-2.ensures.len, c.in_ok-source.ensures.len);
  others = omega (arith, c.deref_mut-3.ensures.len, c.in_ok-found.ensures.len);
}
