use Rattle.af_vars.proofs.LawLemmas.{added_is_read}
use Rattle.af_vars.proofs.laws.the_added_is_read.Goals as goal

pub returns : goal.returns
returns c = added_is_read
