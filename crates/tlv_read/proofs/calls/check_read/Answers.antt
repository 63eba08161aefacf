-- `tlv_read::calls::check_read`: a known rate's slot has octets.
use mathlib.Core.Path.{sym, ◌∙◌}
use native.Mathlib.Omega.{arith}
use Rattle.tlv.specs.CallLaws.{rate_data}
use Rattle.tlv_read.proofs.calls.check_read.Goals as goal

pub lent_ok-requires : goal.lent_ok-requires
lent_ok-requires c = omega (arith, (rate_data c.args.rate (sym c.known.ensures ∙ c.if-not-known.false)).low, c.data_octets-size.ensures)
