use Rattle.std.proofs.Common.{◌∙◌, sym, ap}
use Rattle.af_http.specs.Requests.{length_or}
use Rattle.af_http.proofs.LengthLemmas.{host_length}
use Rattle.af_http.proofs.reading.length_of.Goals as goal

pub returns : goal.returns
returns c =
    host_length c.args.head_only _ _ c.length_in-length.result _ c.length_or.result (sym c.has_host.ensures ∙ c.if-not-has_host.false)
    (c.length_in-length.ensures _ c.value_of.ensures)
    (c.length_or.ensures ∙ ap (length_or c.args.head_only c.length_in-length.result) (c.is_absent-plain.ensures _ c.value_of-2.ensures))
