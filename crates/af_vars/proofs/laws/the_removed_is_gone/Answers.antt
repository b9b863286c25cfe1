use Rattle.af_vars.proofs.LawLemmas.{removed_is_gone}
use Rattle.af_vars.proofs.laws.the_removed_is_gone.Goals as goal

pub returns : goal.returns
returns c = removed_is_gone
