use Rattle.std.proofs.Common.{◌≡◌, ◌++◌, take}
use Rattle.af_policy.proofs.shared.run.copy_all.Given as goal

abbrev pub invariant-loop-row : goal.invariant-loop-row
invariant-loop-row g l = l.into.items ≡ l.initial.into.items ++ take l.row-index l.rows
