use Rattle.af_ops.proofs.ShownLemmas.{by_ids}
use Rattle.af_ops.proofs.laws.runs_are_shown_by_their_ids.Goals as goal

pub returns : goal.returns
returns c = by_ids
