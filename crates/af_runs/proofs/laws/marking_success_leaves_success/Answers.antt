use Rattle.af_runs.proofs.MarkLemmas.{success_left}
use Rattle.af_runs.proofs.laws.marking_success_leaves_success.Goals as goal

pub returns : goal.returns
returns c = success_left
