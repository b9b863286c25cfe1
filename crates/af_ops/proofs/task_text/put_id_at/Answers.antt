use Rattle.af_ops.proofs.TextLemmas.{ids_are_plain}
use Rattle.af_ops.proofs.task_text.put_id_at.Goals as goal

pub put_plain-requires : goal.put_plain-requires
put_plain-requires c = rw c.as_str.ensures.text (ids_are_plain c.in-Some.task.now.task_id c.as_str.ensures.bytes)
