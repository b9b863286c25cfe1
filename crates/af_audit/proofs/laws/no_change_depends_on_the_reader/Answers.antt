use Rattle.af_audit.proofs.ReplayLemmas.{no_change_depends}
use Rattle.af_audit.proofs.laws.no_change_depends_on_the_reader.Goals as goal

pub returns : goal.returns
returns c = no_change_depends
