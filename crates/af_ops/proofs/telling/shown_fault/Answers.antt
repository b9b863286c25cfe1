use Rattle.std.proofs.Common.{rules}
use Rattle.af_ops.proofs.telling.shown_fault.Goals as goal

pub returns-in-Unauthenticated : goal.returns-in-Unauthenticated
returns-in-Unauthenticated c = rw c.in-Unauthenticated.is (search rules)
