use Rattle.af_ops.proofs.TextLemmas.{more}
use Rattle.af_ops.proofs.instance_text.InstanceRowRow.put_fields.Goals as goal

pub returns : goal.returns
returns c = rw (← c.self.view_is) (more c.in_ok-put_first.ensures c.in_ok-put_last.ensures)
