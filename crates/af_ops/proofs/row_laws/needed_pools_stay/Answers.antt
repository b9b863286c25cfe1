use Rattle.af_ops.proofs.RowLawLemmas.{needed_stays}
use Rattle.af_ops.proofs.row_laws.needed_pools_stay.Goals as goal

pub returns : goal.returns
returns c = needed_stays
