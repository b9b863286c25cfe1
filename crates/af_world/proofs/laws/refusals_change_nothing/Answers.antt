use Rattle.af_world.proofs.RefusalLemmas.{refusals}
use Rattle.af_world.proofs.laws.refusals_change_nothing.Goals as goal

pub returns : goal.returns
returns c = refusals
