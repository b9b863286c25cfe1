use Rattle.af_plane.proofs.NameLemmas.{never_fall}
use Rattle.af_plane.proofs.laws.named_versions_never_fall.Goals as goal

pub returns : goal.returns
returns c = never_fall
