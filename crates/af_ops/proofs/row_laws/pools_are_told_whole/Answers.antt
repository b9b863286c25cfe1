use Rattle.af_ops.proofs.RowLawLemmas.{told_whole}
use Rattle.af_ops.proofs.row_laws.pools_are_told_whole.Goals as goal

pub returns : goal.returns
returns c = told_whole
