use Rattle.std.proofs.Common.{arith}
use Rattle.af_runs.specs.declared.run.Run.{Run}
use Rattle.af_sched.specs.Finish.{finished_run}
use Rattle.af_sched.specs.State.{tasks_of}
use Rattle.af_sched.proofs.FinishLemmas.{map-from}
use Rattle.af_sched.proofs.tick.finish.finish_all.Goals as goal

pub returns : goal.returns
returns c =
    map-from (λ (run : Run). finished_run c.args.at (tasks_of c.args.dags.now run.dag_id) run) c.args.runs.now c.loop-run.runs (omega arith) (λ k d inside. c.loop-run.invariant.0 k d (omega arith))
