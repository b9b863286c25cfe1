use Rattle.af_world.proofs.LawLemmas.{state_replays}
use Rattle.af_world.proofs.laws.the_state_is_the_replay.Goals as goal

pub returns : goal.returns
returns c = state_replays
