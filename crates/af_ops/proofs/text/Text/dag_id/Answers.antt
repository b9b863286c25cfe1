use Rattle.af_ops.proofs.TextLemmas.{ids_are_plain}
use Rattle.af_ops.proofs.text.Text.dag_id.Goals as goal

pub plain-requires-clause-plain : goal.plain-requires-clause-plain
plain-requires-clause-plain c = rw c.as_str.ensures.text (ids_are_plain c.args.value.now c.as_str.ensures.bytes)
