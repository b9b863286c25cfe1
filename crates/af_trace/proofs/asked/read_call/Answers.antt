use Rattle.af_http.specs.Routes.{call_of}
use Rattle.af_trace.proofs.WholeLemmas.{or_memory}
use Rattle.af_trace.proofs.asked.read_call.Goals as goal

pub returns : goal.returns
returns c =
    or_memory (call_of c.args.method.now c.args.target.now c.args.body.now) c.read_call.result c.whole.result
    (rw (c.as_bytes.ensures.value, c.as_bytes-2.ensures.value, c.as_bytes-3.ensures.value) at c.read_call.ensures)
    c.whole.ensures
