use Rattle.af_audit.proofs.FollowLemmas.{fronts_stood}
use Rattle.af_audit.proofs.laws.fronts_make_the_state_that_stood.Goals as goal

pub returns : goal.returns
returns c = fronts_stood c.a_replay_is_one.ensures
