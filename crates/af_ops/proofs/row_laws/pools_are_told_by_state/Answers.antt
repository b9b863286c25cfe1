use Rattle.af_ops.proofs.RowLawLemmas.{told_by_state}
use Rattle.af_ops.proofs.row_laws.pools_are_told_by_state.Goals as goal

pub returns : goal.returns
returns c = told_by_state
