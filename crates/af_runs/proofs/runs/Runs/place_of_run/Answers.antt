use Rattle.std.proofs.Common.{ap, List, ℕ}
use Rattle.af_runs.specs.Runs.{is_run}
use Rattle.af_runs.proofs.RunsLemmas.{run_placed}
use Rattle.af_runs.proofs.runs.Runs.place_of_run.Goals as goal

pub returns : goal.returns
returns c =
    run_placed c.args.dag_id.now c.args.run_id.now c.args.self.now.rows c.args.self.now.next c.rows-rows.ensures.kept _ c.place_by.result c.place_by.ensures
    (λ run. ap (λ (id : List ℕ). is_run c.args.dag_id.now id run) c.as_str.ensures.text)
