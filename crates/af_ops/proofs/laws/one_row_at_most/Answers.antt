use Rattle.af_ops.proofs.TableLemmas.{one_row}
use Rattle.af_ops.proofs.laws.one_row_at_most.Goals as goal

pub returns : goal.returns
returns c = one_row
