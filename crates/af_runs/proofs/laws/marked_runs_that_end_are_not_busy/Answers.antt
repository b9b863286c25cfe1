use Rattle.af_runs.proofs.MarkLemmas.{not_busy}
use Rattle.af_runs.proofs.laws.marked_runs_that_end_are_not_busy.Goals as goal

pub returns : goal.returns
returns c = not_busy
