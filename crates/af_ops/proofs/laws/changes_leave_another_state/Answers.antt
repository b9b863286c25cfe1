use Rattle.af_ops.proofs.LawLemmas.{changes_differ}
use Rattle.af_ops.proofs.laws.changes_leave_another_state.Goals as goal

pub returns : goal.returns
returns c = changes_differ
