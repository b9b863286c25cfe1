use Rattle.af_audit.proofs.RequestLemmas.{no_change}
use Rattle.af_audit.proofs.laws.what_is_no_change_leaves_the_ledger.Goals as goal

pub returns : goal.returns
returns c = no_change
