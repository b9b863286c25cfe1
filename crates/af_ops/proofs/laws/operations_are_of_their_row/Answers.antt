use Rattle.af_ops.proofs.CallLemmas.{of_their_row}
use Rattle.af_ops.proofs.laws.operations_are_of_their_row.Goals as goal

pub returns : goal.returns
returns c = of_their_row
