use Rattle.af_audit.proofs.RequestLemmas.{names_the_user}
use Rattle.af_audit.proofs.laws.changes_name_the_user.Goals as goal

pub returns : goal.returns
returns c = names_the_user
