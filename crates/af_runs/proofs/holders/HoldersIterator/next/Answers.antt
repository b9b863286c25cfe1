use Rattle.std.proofs.Common.{◌<◌, arith, length, List}
use Rattle.af_runs.specs.Busy.{holders_of}
use Rattle.af_runs.specs.declared.run.Run.{Run}
use Rattle.af_runs.proofs.YieldLemmas.{yields_at}
use Rattle.af_runs.proofs.holders.HoldersIterator.next.Goals as goal

pub returns-clause-steps : goal.returns-clause-steps
returns-clause-steps c =
    let all : List Run = holders_of c.self.inside.runs.now.rows in
    let inside : c.self.inside.place < length all = omega (arith, c.holder_count.ensures) in
    rw (← c.self.view_is) (yields_at all c.self.inside.place c.holder_at-run.result inside c.holder_at-run.ensures)
