use Rattle.af_word.proofs.RunLemmas.{step_leaves}
use Rattle.af_word.proofs.laws.others_keep_their_view.Goals as goal

pub returns : goal.returns
returns c = step_leaves
