use Rattle.af_ops.proofs.RowLawLemmas.{pools_written}
use Rattle.af_ops.proofs.row_laws.pools_are_as_written.Goals as goal

pub returns : goal.returns
returns c = pools_written
