use Rattle.af_ops.proofs.TextLemmas.{more}
use Rattle.af_ops.proofs.instance_text.put_first.Goals as goal

pub returns : goal.returns
returns c =
    rw (← c.as_str.ensures.text)
    (more (more (more (more c.in_ok-dag_id.ensures c.in_ok-run_id.ensures) c.in_ok-instant.ensures) c.in_ok-text.ensures) c.in_ok-number.ensures)
