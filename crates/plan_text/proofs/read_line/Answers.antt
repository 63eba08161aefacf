-- `plan_text::read_line`: the fields are where the definition has them, and near enough.
use Rattle.std.proofs.Common.{arith}
use Rattle.plan_text.specs.Reading.{field_start, line_ok, line_of}
use Rattle.plan_text.specs.ReadingLaws.{field_near}
use Rattle.plan_text.proofs.Picked.{picked_some, picked_none}
use Rattle.plan_text.proofs.read_line.Goals as goal

pub returns-in_err-modulation : goal.returns-in_err-modulation
unfolding field_start line_ok
returns-in_err-modulation c =
    let a = picked_none _ _ c.in_err-modulation.ensures in
    grind arith

pub read_field-requires-2 : goal.read_field-requires-2
read_field-requires-2 c =
    let a = picked_some _ _ _ c.in_ok-modulation.ensures in
    let n = field_near c.args.text.now c.args.at in
    grind arith

pub returns-in_err-rate : goal.returns-in_err-rate
unfolding field_start line_ok
returns-in_err-rate c =
    let a = picked_some _ _ _ c.in_ok-modulation.ensures in
    let b = picked_none _ _ c.in_err-rate.ensures in
    grind arith

pub read_field-requires-3 : goal.read_field-requires-3
read_field-requires-3 c =
    let a = picked_some _ _ _ c.in_ok-modulation.ensures in
    let b = picked_some _ _ _ c.in_ok-rate.ensures in
    let n = field_near c.args.text.now c.args.at in
    let m = field_near c.args.text.now c.in_ok-modulation.rate_at in
    grind arith

pub returns-in_err-slots : goal.returns-in_err-slots
unfolding field_start line_ok
returns-in_err-slots c =
    let a = picked_some _ _ _ c.in_ok-modulation.ensures in
    let b = picked_some _ _ _ c.in_ok-rate.ensures in
    let d = picked_none _ _ c.in_err-slots.ensures in
    grind arith

pub returns : goal.returns
unfolding field_start line_ok line_of
returns c =
    let a = picked_some _ _ _ c.in_ok-modulation.ensures in
    let b = picked_some _ _ _ c.in_ok-rate.ensures in
    let d = picked_some _ _ _ c.in_ok-slots.ensures in
    grind arith
