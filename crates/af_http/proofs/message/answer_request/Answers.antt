use Rattle.std.proofs.Common.{refl}
use Rattle.af_http.specs.Requests.{seen}
use Rattle.af_http.proofs.SendLemmas.{put_as}
use Rattle.af_http.proofs.StopLemmas.{text_is, end_is}
use Rattle.af_http.proofs.message.answer_request.Goals as goal

pub returns : goal.returns
returns g c =
    let asked = seen c.args.request.now c.args.body.now in
    let reply = c.make-reply.result in
    record {
      exchange = record { asked = asked; reply = reply };
      asks = refl;
      makes = c.make-reply.ensures;
      puts = put_as (text_is asked reply c.args.count c.is_head.result c.closes_after-closes.result c.is_head.ensures (c.closes_after-closes.ensures c.args.body.now)) c.put_reply.ensures;
      outcome_is = end_is asked reply c.args.count c.put_reply.new.outgoing.failed c.or_fault.result c.end_by.result c.wants_memory.result c.closes_after-closes.result
          c.or_fault.ensures c.end_by.ensures c.wants_memory.ensures (c.closes_after-closes.ensures c.args.body.now);
    }
