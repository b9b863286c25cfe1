use Rattle.std.proofs.Common.{ap, sym}
use Rattle.af_http.specs.Replies.{reply_text}
use Rattle.af_http.specs.declared.reply.Reply.{Reply}
use Rattle.af_http.proofs.SendLemmas.{put_as}
use Rattle.af_http.proofs.replying.put_reply.Goals as goal

pub returns-in-Fault : goal.returns-in-Fault
returns-in-Fault g c = put_as (ap (λ (reply : Reply). reply_text reply c.args.head_only c.args.closes) (sym c.in-Fault.is)) c.put_fault.ensures

pub returns-in-Served : goal.returns-in-Served
returns-in-Served g c = put_as (ap (λ (reply : Reply). reply_text reply c.args.head_only c.args.closes) (sym c.in-Served.is)) c.put_served.ensures
