use Rattle.af_base.specs.JsonValue.{view}
use Rattle.af_trace.specs.Steps.{step_in}
use Rattle.af_trace.proofs.AgreeLemmas.{joined}
use Rattle.af_trace.proofs.reading.add_step.Goals as goal

pub returns : goal.returns
returns c =
    joined c.args.trace.now _ c.args.answer (step_in c.args.trace.now.sessions (view c.args.row.now)) c.read_step-step.result c.add_read.result
    (rw c.sessions.ensures at c.read_step-step.ensures)
    c.add_read.ensures
