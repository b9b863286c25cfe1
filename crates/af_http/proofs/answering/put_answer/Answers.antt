use Rattle.af_http.proofs.SendLemmas.{put_also, put_as}
use Rattle.af_http.proofs.answering.put_answer.Goals as goal

pub returns : goal.returns
returns g c = put_also c.put_head.ensures (put_as c.body_part.ensures c.put.ensures.all)
