use Rattle.af_ops.proofs.DecisionLemmas.{served_openly}
use Rattle.af_ops.proofs.answering.openly.Goals as goal

pub returns-in-Err-clause-served : goal.returns-in-Err-clause-served
returns-in-Err-clause-served c =
    rw (c.prepare.ensures.rows)
    (served_openly c.args.op.now _ (record { under = c.args.under; state = c.args.state.now.rows }) c.in-Err.fault c.refused.result c.in-Err.ensures.told (c.refused.ensures.served c.args.state.now.rows))
