use Rattle.af_sched.proofs.StillLemmas.{still_exactly_where_idle}
use Rattle.af_sched.proofs.laws.nothing_changes_exactly_where_nothing_is_due.Goals as goal

pub returns : goal.returns
returns c = still_exactly_where_idle
