use Rattle.af_audit.proofs.ReplayLemmas.{replay_is_one}
use Rattle.af_audit.proofs.laws.a_replay_is_one.Goals as goal

pub returns : goal.returns
returns c = replay_is_one c.a_tick_is_one.ensures c.a_claim_is_one.ensures
