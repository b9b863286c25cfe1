use Rattle.af_world.proofs.PageLemmas.{policy_pages_stand}
use Rattle.af_world.proofs.laws.policy_pages_shown_stand.Goals as goal

pub returns : goal.returns
returns c = policy_pages_stand
