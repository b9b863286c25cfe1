use Rattle.af_ops.proofs.StepLemmas.{touches_chosen}
use Rattle.af_ops.proofs.laws.clears_touch_chosen_alone.Goals as goal

pub returns : goal.returns
returns c = touches_chosen
