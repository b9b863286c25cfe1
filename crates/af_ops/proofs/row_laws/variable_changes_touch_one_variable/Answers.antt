use Rattle.af_ops.proofs.RowLawLemmas.{variable_alone}
use Rattle.af_ops.proofs.row_laws.variable_changes_touch_one_variable.Goals as goal

pub returns : goal.returns
returns c = variable_alone
