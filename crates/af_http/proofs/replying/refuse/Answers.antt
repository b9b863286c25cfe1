use Rattle.af_http.proofs.SendLemmas.{put_as, put_any}
use Rattle.af_http.proofs.AnswerLemmas.{refusal_is}
use Rattle.af_http.proofs.replying.refuse.Goals as goal

pub returns : goal.returns
returns g c = put_any (put_as (refusal_is _ _ _ _ c.args.refusal c.problem-answer.ensures c.status.ensures c.body.ensures c.head_only.ensures) c.put_answer.ensures)
