use Rattle.af_audit.proofs.ReplayLemmas.{fronts_make}
use Rattle.af_audit.proofs.laws.fronts_make_the_state_as_it_was.Goals as goal

pub returns : goal.returns
returns c = fronts_make c.a_replay_is_one.ensures
