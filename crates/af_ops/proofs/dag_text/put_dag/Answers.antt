use Rattle.af_ops.proofs.TextLemmas.{more}
use Rattle.af_ops.proofs.dag_text.put_dag.Goals as goal

pub returns : goal.returns
returns c =
    rw (← c.dag_id.ensures, ← c.schedule.ensures, ← c.definition.ensures.value, ← c.from.ensures)
    (more (more (more (more c.in_ok-dag_id.ensures c.in_ok-truth.ensures) c.in_ok-number.ensures) c.in_ok-instant.ensures) c.in_ok-put_schedule.ensures)
