-- `symbols::label_octets`: the labels of the octets' bits.
use mathlib.Core.Path.{sym, ap, ◌∙◌}
use lib.ListN.{length}
use Rattle.bits.specs.OctetLaws.{length_bits_of, bits_of_bits}
use Rattle.symbols.specs.Labels.{labels_of, labels_of_octets}
use Rattle.symbols.proofs.runs.label_octets.Goals as goal

pub label_bits-requires : goal.label_bits-requires
label_bits-requires g c =
    let u = c.args.octets.now in
    record {
      shared = record { known = c.requires.shared.known; long = ap length c.expand.ensures ∙ length_bits_of u ∙ sym c.requires.eights ∙ c.requires.shared.long; few = c.requires.shared.few };
      bits = rw c.expand.ensures (bits_of_bits u);
    }

pub returns : goal.returns
unfolding labels_of_octets
returns g c =
    let a = c.args in
    c.label_bits.ensures ∙ ap (labels_of a.modulation (length a.labels.now) a.leftward) c.expand.ensures
