use Rattle.af_ops.proofs.TextLemmas.{more}
use Rattle.af_ops.proofs.cleared_text.put_cleared.Goals as goal

pub returns : goal.returns
returns c =
    more (more (more c.in_ok-dag_id.ensures c.in_ok-run_id.ensures) c.in_ok-instant.ensures) c.in_ok-text.ensures
