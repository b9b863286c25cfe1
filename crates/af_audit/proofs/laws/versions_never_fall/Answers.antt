use Rattle.af_audit.proofs.FollowLemmas.{never_fall}
use Rattle.af_audit.proofs.laws.versions_never_fall.Goals as goal

pub returns : goal.returns
returns c = never_fall
