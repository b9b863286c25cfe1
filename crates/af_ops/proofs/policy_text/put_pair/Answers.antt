use Rattle.af_ops.proofs.TextLemmas.{more}
use Rattle.af_ops.proofs.policy_text.put_pair.Goals as goal

pub returns : goal.returns
returns c = rw (← c.text.ensures) (more c.in_ok-put_named.ensures c.in_ok-put_resource.ensures)
