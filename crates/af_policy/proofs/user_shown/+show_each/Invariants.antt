use Rattle.std.proofs.Common.{length}
use Rattle.af_policy.proofs.user_shown.+show_each.Given as goal

abbrev pub decreases-show_each : goal.decreases-show_each
decreases-show_each l = length l.names.now
