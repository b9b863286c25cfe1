use Rattle.af_policy.proofs.StandLemmas.{changes-told}
use Rattle.af_policy.proofs.laws.changes_are_told.Goals as goal

pub returns : goal.returns
returns c = changes-told
