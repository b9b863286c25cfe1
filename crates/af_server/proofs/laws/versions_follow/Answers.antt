use Rattle.af_server.proofs.LawLemmas.{versions_follow}
use Rattle.af_server.proofs.laws.versions_follow.Goals as goal

pub returns : goal.returns
returns c = versions_follow c.versions_follow.ensures
