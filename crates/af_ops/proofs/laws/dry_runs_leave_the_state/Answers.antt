use Rattle.af_ops.proofs.StepLemmas.{dry_runs_keep}
use Rattle.af_ops.proofs.laws.dry_runs_leave_the_state.Goals as goal

pub returns : goal.returns
returns c = dry_runs_keep
