use Rattle.af_server.proofs.WorldRunLemmas.{named_versions_climb}
use Rattle.af_server.proofs.laws.answered_versions_climb.Goals as goal

pub returns : goal.returns
returns c = named_versions_climb c.named_versions_never_fall.ensures
