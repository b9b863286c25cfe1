use Rattle.af_sched.proofs.MarkedLemmas.{none_reported}
use Rattle.af_sched.proofs.laws.reports_of_removed_runs_find_none.Goals as goal

pub returns : goal.returns
returns c = none_reported
