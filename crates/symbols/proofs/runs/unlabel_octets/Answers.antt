-- `symbols::unlabel_octets`: the octets of the labels' bits.
use mathlib.Core.Path.{sym, ap, ◌∙◌}
use lib.ListN.{length}
use Rattle.bits.specs.Octets.{octets_of}
use Rattle.symbols.specs.Labels.{octets_of_labels}
use Rattle.symbols.specs.LabelLaws.{length_label_bits, label_bits_bits}
use Rattle.symbols.proofs.runs.unlabel_octets.Goals as goal

pub collect-requires : goal.collect-requires
collect-requires g c =
    let a = c.args in
    let u = a.labels.now in
    let e = c.unlabel_bits.ensures in
    record {
      eights = ap length e ∙ length_label_bits a.modulation (length u) a.leftward u ∙ sym c.requires.shared.long ∙ c.requires.eights;
      bits = rw e (label_bits_bits a.modulation (length u) a.leftward u);
    }

pub returns : goal.returns
unfolding octets_of_labels
returns g c = c.collect.ensures ∙ ap (octets_of (length c.args.octets.now)) c.unlabel_bits.ensures
