use Rattle.std.proofs.Common.{length}
use Rattle.af_policy.proofs.shared.run.+put_all.Given as goal

abbrev pub decreases-put_all : goal.decreases-put_all
decreases-put_all g l = length l.rows.now
