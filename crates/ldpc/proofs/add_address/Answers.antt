-- `ldpc::add_address`: the column of the address is one of those lent, and the others stay.
use mathlib.Core.Path.{◌∙◌}
use Prim.Native.Nat.{◌+◌, ◌*◌, ◌%◌, ◌≤◌}
use native.Mathlib.Omega.{arith}
use lib.ListN.{length}
use Rattle.lists.specs.PartLaws.{length_part}
use Rattle.ldpc.proofs.StepLaws.{turn_below}
use Rattle.ldpc.proofs.Turning.{column_ends, address_added}
use Rattle.ldpc.proofs.add_address.Goals.{Start}
use Rattle.ldpc.proofs.add_address.Goals as goal

-- the column ends within the columns
ends : (s : Start) → 374 * (s.args.address % s.args.q) + 374 ≤ length s.args.columns.now
ends s = omega (arith, column_ends s.args.q s.args.address s.requires.some, s.requires.places)

pub overflow_mul-first : goal.overflow_mul-first
overflow_mul-first c = omega (arith, ends c.before.before.before)

pub overflow_add-end : goal.overflow_add-end
overflow_add-end c = omega (arith, ends c.before.before.before)

pub slice_bounds-add_turned-end : goal.slice_bounds-add_turned-end
slice_bounds-add_turned-end c = omega (arith, ends c.before.before.before)

pub add_turned-requires : goal.add_turned-requires
add_turned-requires c =
    let s = c in
    let a = s.args in
    let f = 374 * (a.address % a.q) in
    record {
      bits = s.requires.bits;
      turn = omega (arith, turn_below a.q a.address s.requires.some s.requires.below);
      places = length_part f (f + 374) a.columns.now (ends c.before.before.before.before) ∙ omega arith;
    }

pub returns : goal.returns
returns c =
    let d = c in
    let s = d in
    let a = s.args in
    address_added a.q a.address a.row.now a.columns.now d.add_turned.new.column s.requires d.add_turned.ensures
