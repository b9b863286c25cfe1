use Rattle.af_ops.proofs.ReadingLemmas.{readings_keep}
use Rattle.af_ops.proofs.laws.readings_leave_the_state.Goals as goal

pub returns : goal.returns
returns c = readings_keep
