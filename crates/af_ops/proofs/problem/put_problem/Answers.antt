use Rattle.af_ops.proofs.TextLemmas.{more}
use Rattle.af_ops.proofs.problem.put_problem.Goals as goal

pub returns : goal.returns
returns c =
    rw (← c.reason.ensures, ← c.code.ensures, ← c.from.ensures)
    (more (more (more c.in_ok-text.ensures c.in_ok-number.ensures) c.in_ok-text-2.ensures) c.in_ok-plain.ensures)
