use Rattle.af_world.proofs.OneLemmas.{runs_one}
use Rattle.af_world.proofs.laws.runs_are_one.Goals as goal

pub returns : goal.returns
returns c = runs_one c.a_tick_is_one.ensures c.a_claim_is_one.ensures
