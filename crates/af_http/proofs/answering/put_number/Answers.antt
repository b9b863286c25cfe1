use Rattle.std.proofs.Common.{◌∙◌}
use Rattle.af_http.proofs.SendLemmas.{put_also, put_as}
use Rattle.af_http.proofs.answering.put_number.Goals as goal

pub returns : goal.returns
returns g c =
    let digits = put_as (c.as_bytes.ensures.value ∙ c.format.ensures.text) c.put-2.ensures.all in
    put_also c.put.ensures.all (put_also digits c.put-3.ensures.all)
