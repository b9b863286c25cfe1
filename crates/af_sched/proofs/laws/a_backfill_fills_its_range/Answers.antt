use Rattle.af_sched.proofs.BackfillLawLemmas.{backfill_fills}
use Rattle.af_sched.proofs.laws.a_backfill_fills_its_range.Goals as goal

pub returns : goal.returns
returns c = backfill_fills
