use Rattle.af_ops.proofs.RunLemmas.{adds_run}
use Rattle.af_ops.proofs.laws.triggers_add_a_run.Goals as goal

pub returns : goal.returns
returns c = adds_run
