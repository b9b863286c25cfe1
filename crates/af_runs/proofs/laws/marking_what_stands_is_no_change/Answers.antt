use Rattle.af_runs.proofs.MarkLemmas.{marked_same, same_marked}
use Rattle.af_runs.proofs.laws.marking_what_stands_is_no_change.Goals as goal

pub returns : goal.returns
returns c = λ said t run. (marked_same said t run, same_marked said t run)
