use Rattle.std.proofs.Common.{◌∙◌, List, ap, drop, ℕ}
use Rattle.std.proofs.lemmas.Iterator.{YieldsList-from_take}
use Rattle.std.proofs.lemmas.Iterator.Consumers.{YieldsList-from_first, map_from_collect}
use Rattle.af_runs.specs.Runs.{runs_of}
use Rattle.af_runs.specs.declared.run.Run.{Run}
use Rattle.af_ops.proofs.operations.runs.page_of_dag.Goals as goal

pub returns : goal.returns
returns c =
    let runs = runs_of c.args.state.now.rows.runs c.args.dag_id.now in
    let from = c.take.ensures.source ∙ c.runs_of_dag.ensures ∙ ap (λ (n : ℕ). drop n runs) c.offset.ensures in
    map_from_collect {s = c.take.result} c.collect.result c.collect.ensures.ran
    (YieldsList-from_take c.args.window.limit (YieldsList-from_first (λ run. run.now) (λ (runs : List Run). runs) (drop c.args.window.offset runs) from) (c.take.ensures.count ∙ c.limit.ensures.value))
