use Rattle.std.proofs.Common.{◌≡◌, ◌∙◌, sym, ap, ℕ, List, ◌++◌, get_or, take}
use Rattle.af_graph.specs.declared.task_spec.TaskSpec.{TaskSpec}
use Rattle.af_runs.specs.declared.run.Run.{Run}
use Rattle.af_sched.specs.Placed.{Placed, placed_of, placed_in}
use Rattle.af_sched.specs.State.{tasks_of}
use Rattle.af_sched.proofs.PlacedLemmas.{flat_map-more}
use Rattle.af_sched.proofs.placed.placed_in.Goals as goal

pub loop-run-preserved : goal.loop-run-preserved
loop-run-preserved c =
    let k : ℕ = c.loop-run.run-index in
    let before : List Placed = placed_in c.args.dags.now (take k c.args.runs.now) in
    let here : placed_of c.tasks_of.result.now c.run-item.result ≡ placed_of (tasks_of c.args.dags.now (get_or c.args.runs.now k c.run-item.result).dag_id) (get_or c.args.runs.now k c.run-item.result) =
    rw (← c.run-item.is) (ap (λ (tasks : List TaskSpec). placed_of tasks c.run-item.result) c.tasks_of.ensures) in
    c.in_ok-place_run.ensures
    ∙ (λ i. c.loop-run.invariant i ++ here i)
    ∙ sym (flat_map-more (λ (run : Run). placed_of (tasks_of c.args.dags.now run.dag_id) run) c.args.runs.now k c.run-item.result c.loop-run-test.true)
