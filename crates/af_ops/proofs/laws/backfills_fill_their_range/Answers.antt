use Rattle.af_ops.proofs.BackfillLemmas.{fills_range}
use Rattle.af_ops.proofs.laws.backfills_fill_their_range.Goals as goal

pub returns : goal.returns
returns c = fills_range
