use Rattle.af_ops.proofs.RowLawLemmas.{variables_written}
use Rattle.af_ops.proofs.row_laws.variables_are_as_written.Goals as goal

pub returns : goal.returns
returns c = variables_written
