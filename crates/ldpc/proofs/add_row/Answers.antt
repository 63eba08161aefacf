-- `ldpc::add_row`: the row is added through the addresses passed.
use Rattle.std.proofs.Common.{◌≡◌, ◌∙◌, length, arith, rules}
use Rattle.ldpc.specs.Columns.{across}
use Rattle.ldpc.proofs.SteppedParityLaws.{row_stepped_none, row_stepped_whole}
use Rattle.ldpc.proofs.AddedLaws.{added_none, added_then}
use Rattle.ldpc.proofs.add_row.Goals as goal

pub loop-address-init : goal.loop-address-init
loop-address-init c = let a = c.args in added_none _ _ (λ n. row_stepped_none a.q a.addresses.now a.row.now 0 0 (across a.q 374 n))

pub add_address-requires : goal.add_address-requires
add_address-requires c =
    let l = c.loop-address in
    let s = c.requires in
    record { some = s.some; below = rw c.from.ensures (s.below l.address-index (search rules)); bits = s.bits; places = l.invariant.same ∙ s.places }

pub loop-address-preserved : goal.loop-address-preserved
loop-address-preserved c =
    let l = c.loop-address in
    let a = c.args in
    added_then _ l.columns _ _ _ _ l.invariant c.add_address.ensures
    (λ n. rw c.from.ensures (row_stepped_whole a.q a.addresses.now a.row.now l.address-index (across a.q 374 n) c.requires.bits))

pub returns : goal.returns
returns c =
    let e : c.loop-address.address-index ≡ length c.args.addresses.now = omega arith in
    rw e at c.loop-address.invariant
