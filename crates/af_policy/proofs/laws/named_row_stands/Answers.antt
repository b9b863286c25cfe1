use Rattle.af_policy.proofs.StandLemmas.{named_row-stands}
use Rattle.af_policy.proofs.laws.named_row_stands.Goals as goal

pub returns : goal.returns
returns c = named_row-stands
