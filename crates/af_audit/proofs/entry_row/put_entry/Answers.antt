use Rattle.af_audit.proofs.RowLemmas.{more}
use Rattle.af_audit.proofs.entry_row.put_entry.Goals as goal

pub returns : goal.returns
returns c =
    rw (← c.dag.ensures, ← c.event.ensures.name, ← c.from.ensures, ← c.from-2.ensures, ← c.task.ensures)
    (more (more (more (more (more (more (more c.in_ok-put_dag.ensures c.in_ok-plain.ensures) c.in_ok-number.ensures) c.in_ok-put_owner.ensures) c.in_ok-number-2.ensures) c.in_ok-put_run.ensures) c.in_ok-put_task.ensures) c.in_ok-instant.ensures)
