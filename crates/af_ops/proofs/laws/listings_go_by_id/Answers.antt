use Rattle.af_ops.proofs.ReadingLemmas.{listings_in_order}
use Rattle.af_ops.proofs.laws.listings_go_by_id.Goals as goal

pub returns : goal.returns
returns c = listings_in_order
