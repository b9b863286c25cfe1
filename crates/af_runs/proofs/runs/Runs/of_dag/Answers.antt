use Rattle.std.proofs.Common.{◌∙◌}
use Rattle.af_runs.specs.Runs.{is_of}
use Rattle.af_runs.proofs.YieldLemmas.{first_numbers}
use Rattle.af_runs.proofs.runs.Runs.of_dag.Goals as goal

pub from-requires : goal.from-requires
from-requires c =
    let is = c.self.invariant in
    rw (← c.self.view_is) (first_numbers (is_of c.args.dag_id.now) c.self.inside.rows.items c.self.inside.index.dags.listed c.of.result.now (c.of.ensures ∙ is.1.dags.numbers c.args.dag_id.now))
