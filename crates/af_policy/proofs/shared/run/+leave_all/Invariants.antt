use Rattle.std.proofs.Common.{length}
use Rattle.af_policy.proofs.shared.run.+leave_all.Given as goal

abbrev pub decreases-leave_all : goal.decreases-leave_all
decreases-leave_all g l = length l.rows.now
