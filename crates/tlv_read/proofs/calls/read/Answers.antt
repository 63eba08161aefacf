-- `tlv_read::calls::read`: an accepted call leaves what the reading from its start gives.
use mathlib.Core.Path.{refl, sym, ap, ◌∙◌}
use native.Mathlib.Omega.{arith}
use lib.ListN.{length}
use Rattle.tlv.specs.CallLaws.{read_done}
use Rattle.tlv.specs.Calls.{laid}
use Rattle.tlv.specs.Read.{Reading}
use Rattle.tlv_read.specs.CallTurns.{read_needs, reading_is}
use Rattle.tlv_read.proofs.calls.read.Goals as goal

pub invariant_of-lent : goal.invariant_of-lent
invariant_of-lent c =
    let a = c.args in
    let z = sym c.in_ok-check_read.ensures in
    let d = c.data_octets-size in
    let r = read_needs a.rate a.slots.now a.begins.now a.lost.now a.first a.packets.now z d.result d.ensures (omega arith) _ refl in
    record { lending = record { reported = r.lent.reported; long = r.lent.long } }

pub read_from-requires-clause-within : goal.read_from-requires-clause-within
read_from-requires-clause-within c =
    let a = c.args in
    let z = sym c.in_ok-check_read.ensures in
    let d = c.data_octets-size in
    let r = read_needs a.rate a.slots.now a.begins.now a.lost.now a.first a.packets.now z d.result d.ensures (omega arith) c.start_at-from.result c.start_at-from.ensures in
    omega (arith, r.lent.within, r.lent.long)

pub read_from-requires-clause-place : goal.read_from-requires-clause-place
read_from-requires-clause-place c =
    let a = c.args in
    let z = sym c.in_ok-check_read.ensures in
    let d = c.data_octets-size in
    let r = read_needs a.rate a.slots.now a.begins.now a.lost.now a.first a.packets.now z d.result d.ensures (omega arith) c.start_at-from.result c.start_at-from.ensures in
    r.place

pub returns : goal.returns
returns c =
    let a = c.args in
    let z = sym c.in_ok-check_read.ensures in
    let d = c.data_octets-size in
    let g = reading_is a.rate a.slots.now a.begins.now a.lost.now a.first a.packets.now z d.result d.ensures c.start_at-from.result c.start_at-from.ensures in
    let r = c.read_from.ensures in
    let q =
    read_done a.rate a.slots.now a.begins.now a.lost.now a.first a.packets.now 0 c.in_ok-check_read.ensures refl _ _
    (r.answer ∙ ap (λ (x : Reading). record { number = 0; written = length x.written; unfinished = x.unfinished }) g)
    (r.octets ∙ ap (λ (x : Reading). laid x.written a.packets.now) g) in
    record { value = q.0; packets_after = q.1 }
