use Rattle.af_ops.specs.declared.answer.CallFault.TheVariants as why
use Rattle.af_ops.proofs.TellingLemmas.{told_is}
use Rattle.af_ops.proofs.telling.shown_op_fault.Goals as goal

pub returns : goal.returns
returns c =
    told_is c.args.op.now c.args.under (why.Op c.args.fault) _ c.shown_problem.result
    (rw (c.op_status-status.ensures, c.as_str.ensures.value) c.in_ok-detail.ensures) c.shown_problem.ensures
