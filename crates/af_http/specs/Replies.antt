-- What is made of a request, and its bytes.
use Rattle.std.specs.Prelude.{ℕ, Bool, true, false, cond, List, Some, None, codes}
use Rattle.af_ops.specs.declared.served.Served.TheVariants as served
use Rattle.af_ops.specs.declared.shown_answer.Shown.{Shown}
use Rattle.af_ops.specs.declared.status.Status.{Status}
use Rattle.af_ops.specs.declared.status.Status.TheVariants as status
use Rattle.af_http.specs.Answers.{Told, problem, answer_text, memory_text}
use Rattle.af_http.specs.declared.route_fault.RouteFault.TheVariants as fault
use Rattle.af_http.specs.declared.reply.Reply.{Reply}
use Rattle.af_http.specs.declared.reply.Reply.TheVariants as reply

-- an answer of this status has no content, and so neither the type nor the length of one (RFC 9110, sections 8.6 and 15.3.5)
abbrev pub is_empty : Status → Bool
is_empty status.NoContent = true
is_empty _ = false

-- what the service tells
abbrev pub told_by : Shown → Told
told_by shown =
    record { status = shown.status; allow = None; version = shown.version; seq = shown.seq; body = cond (is_empty shown.status) None shown.body }

-- The bytes of a reply, without its body after a HEAD. Out of memory has fixed ones.
abbrev pub reply_text : Reply → Bool → Bool → List ℕ
reply_text (reply.Fault fault.NoPath) head_only closes =
    answer_text (problem status.NotFound None (codes "no such path")) head_only closes
reply_text (reply.Fault (fault.BadMethod allow)) head_only closes =
    answer_text (problem status.MethodNotAllowed (Some allow) (codes "method not allowed")) head_only closes
reply_text (reply.Fault fault.OutOfMemory) head_only closes = memory_text
reply_text (reply.Served (served.Shown shown)) head_only closes = answer_text (told_by shown) head_only closes
reply_text (reply.Served served.NothingDone) head_only closes = memory_text

-- it tells out of memory
abbrev pub wants_memory : Reply → Bool
wants_memory (reply.Fault fault.NoPath) = false
wants_memory (reply.Fault (fault.BadMethod allow)) = false
wants_memory (reply.Fault fault.OutOfMemory) = true
wants_memory (reply.Served (served.Shown shown)) = false
wants_memory (reply.Served served.NothingDone) = true
