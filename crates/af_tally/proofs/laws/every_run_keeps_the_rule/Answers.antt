use Rattle.af_tally.proofs.RunLemmas.{run_kept}
use Rattle.af_tally.proofs.laws.every_run_keeps_the_rule.Goals as goal

pub returns : goal.returns
returns g c = run_kept
