-- `tlv_fill::calls::check_lent`: a known rate's slot has octets.
use mathlib.Core.Path.{sym, ◌∙◌}
use native.Mathlib.Omega.{arith}
use Rattle.tlv.specs.CallLaws.{rate_data}
use Rattle.tlv_fill.proofs.calls.check_lent.Goals as goal

pub slots_ok-requires : goal.slots_ok-requires
slots_ok-requires c = omega (arith, (rate_data c.args.rate (sym c.known.ensures ∙ c.if-not-known.false)).low, c.data_octets-size.ensures)
