use Rattle.af_runs.proofs.MarkLemmas.{chosen_alone}
use Rattle.af_runs.proofs.laws.clears_touch_chosen_alone.Goals as goal

pub returns : goal.returns
returns c = chosen_alone
