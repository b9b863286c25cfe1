use Rattle.af_runs.proofs.MarkLemmas.{others_stay}
use Rattle.af_runs.proofs.laws.marks_touch_one_run.Goals as goal

pub returns : goal.returns
returns c = others_stay
