use Rattle.af_ops.proofs.TextLemmas.{more}
use Rattle.af_ops.proofs.run_text.put_run.Goals as goal

pub returns : goal.returns
returns c =
    rw (← c.run_type_text.ensures.text, ← c.run_state_text.ensures.text)
    (more (more (more (more (more (more (more (more c.in_ok-dag_id.ensures c.in_ok-run_id.ensures) c.in_ok-instant_by.ensures) c.in_ok-instant_by-2.ensures) c.in_ok-instant.ensures) c.in_ok-instant_by-3.ensures) c.in_ok-plain.ensures) c.in_ok-instant-2.ensures) c.in_ok-plain-2.ensures)
