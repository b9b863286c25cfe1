use Rattle.af_world.proofs.OneRowLemmas.{policy_rows_stand}
use Rattle.af_world.proofs.laws.policy_rows_shown_stand.Goals as goal

pub returns : goal.returns
returns c = policy_rows_stand
