use Rattle.std.proofs.Common.{◌+◌, arith}
use Rattle.af_runs.proofs.RunLemmas.{AreRuns-none}
use Rattle.af_runs.proofs.runs.Runs.after.Goals as goal

pub invariant_of-result : goal.invariant_of-result
invariant_of-result c = (rw c.new.ensures.items (AreRuns-none (c.args.last + 1)), rw c.new.ensures.items c.new-2.ensures.runs, c.new-2.ensures.room, omega arith)
