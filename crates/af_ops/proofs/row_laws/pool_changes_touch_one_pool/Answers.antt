use Rattle.af_ops.proofs.RowLawLemmas.{pool_alone}
use Rattle.af_ops.proofs.row_laws.pool_changes_touch_one_pool.Goals as goal

pub returns : goal.returns
returns c = pool_alone
