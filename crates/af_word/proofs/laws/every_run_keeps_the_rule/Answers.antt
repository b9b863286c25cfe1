use Rattle.af_word.proofs.RunLemmas.{run_kept}
use Rattle.af_word.proofs.laws.every_run_keeps_the_rule.Goals as goal

pub returns : goal.returns
returns c = run_kept
