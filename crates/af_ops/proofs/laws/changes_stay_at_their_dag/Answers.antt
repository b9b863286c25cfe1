use Rattle.af_ops.proofs.LawLemmas.{changes_stay}
use Rattle.af_ops.proofs.laws.changes_stay_at_their_dag.Goals as goal

pub returns : goal.returns
returns c = changes_stay
