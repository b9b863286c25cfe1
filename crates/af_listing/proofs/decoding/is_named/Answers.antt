use Rattle.std.proofs.Common.{sym, ◌∙◌, ap, not, bytes_eq}
use Rattle.percent_encoding.specs.Percent.{percent_decode}
use Rattle.af_listing.proofs.DecodeLemmas.{plain_name, plus_in_no_name}
use Rattle.af_listing.proofs.decoding.is_named.Goals as goal

pub returns-then-not-has_plus : goal.returns-then-not-has_plus
returns-then-not-has_plus c =
    plain_name c.args.name.now c.args.parameter c.decodes_to.result (sym c.has_plus.ensures ∙ c.if-not-has_plus.true) (c.decodes_to.ensures ∙ ap (bytes_eq (percent_decode c.args.name.now)) c.text_of.ensures)

pub returns-else-not-has_plus : goal.returns-else-not-has_plus
returns-else-not-has_plus c =
    ap not c.if-not-has_plus.false ∙ sym (plus_in_no_name c.args.name.now c.args.parameter (sym c.has_plus.ensures ∙ c.if-not-has_plus.false))
