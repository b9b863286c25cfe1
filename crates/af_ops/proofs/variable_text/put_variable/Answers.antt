use Rattle.af_ops.proofs.TextLemmas.{more}
use Rattle.af_ops.proofs.variable_text.put_variable.Goals as goal

pub returns : goal.returns
returns c = more c.in_ok-text.ensures c.in_ok-text-2.ensures
