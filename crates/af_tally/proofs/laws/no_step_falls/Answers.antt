use Rattle.af_tally.proofs.RunLemmas.{step_rises}
use Rattle.af_tally.proofs.laws.no_step_falls.Goals as goal

pub returns : goal.returns
returns g c = step_rises
