use Rattle.af_tally.proofs.RunLemmas.{step_leaves}
use Rattle.af_tally.proofs.laws.others_keep_their_view.Goals as goal

pub returns : goal.returns
returns g c = step_leaves
