use Rattle.af_word.proofs.RunLemmas.{step_rises}
use Rattle.af_word.proofs.laws.no_step_falls.Goals as goal

pub returns : goal.returns
returns c = step_rises
