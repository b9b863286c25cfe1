use Rattle.std.proofs.Common.{◌<◌, arith, length, List}
use Rattle.af_runs.specs.Busy.{busy_of}
use Rattle.af_runs.specs.declared.run.Run.{Run}
use Rattle.af_runs.proofs.YieldLemmas.{yields_at}
use Rattle.af_runs.proofs.busy_runs.BusyRunsIterator.next.Goals as goal

pub returns-clause-steps : goal.returns-clause-steps
returns-clause-steps c =
    let busy : List Run = busy_of c.self.inside.runs.now.rows in
    let inside : c.self.inside.place < length busy = omega (arith, c.busy_count.ensures) in
    rw (← c.self.view_is) (yields_at busy c.self.inside.place c.busy_at-run.result inside c.busy_at-run.ensures)
