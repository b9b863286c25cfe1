use Rattle.std.proofs.Common.{rules}
use Rattle.af_ops.proofs.operations.backfilling.backfill_id.Goals as goal

pub returns : goal.returns
returns c = search rules
