use Rattle.af_ops.proofs.RowLawLemmas.{rows_by_name}
use Rattle.af_ops.proofs.row_laws.rows_go_by_name.Goals as goal

pub returns : goal.returns
returns c = rows_by_name
