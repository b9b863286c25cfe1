use Rattle.std.proofs.Common.{◌≡◌, ℤ, to_z, of_z, w32, take, subst}
use Rattle.std.specs.Int.Signed.{◌≤ℤ◌}
use Rattle.std.proofs.lemmas.Int.{to_z-of_z}
use Rattle.std.proofs.lemmas.List.{take_all}
use Rattle.std.proofs.lemmas.List.Elements.{All-more}
use Rattle.af_graph.specs.declared.task_spec.TaskSpec.{TaskSpec}
use Rattle.af_sched.specs.Weights.{NoTaskIsHeavier}
use Rattle.af_sched.proofs.HeavyLemmas.{≤ℤ_past, raised_tasks}
use Rattle.af_sched.proofs.dag_table.heaviest_of.Goals as goal

pub loop-task-preserved : goal.loop-task-preserved
loop-task-preserved c =
    let low : ℤ = to_z w32 c.loop-task.heaviest-bits in
    let high : ℤ = c.heavier-heaviest.result in
    let same : to_z w32 (of_z w32 high) ≡ high = to_z-of_z w32 high (record { sfits = c.heavier-heaviest.type_inv }) in
    let up : low ≤ℤ high = c.heavier-heaviest.ensures.given in
    rw same (
      ≤ℤ_past _ low high c.loop-task.invariant.0 up,
      All-more (λ (task : TaskSpec). task.priority_weight ≤ℤ high) c.args.tasks.now c.loop-task.task-index c.task-item.result c.loop-task-test.true
          (raised_tasks low high (take c.loop-task.task-index c.args.tasks.now) up c.loop-task.invariant.1)
          (subst (λ (task : TaskSpec). task.priority_weight ≤ℤ high) c.task-item.is c.heavier-heaviest.ensures.task),
    )

pub returns-clause-tasks : goal.returns-clause-tasks
returns-clause-tasks c = subst (NoTaskIsHeavier (to_z w32 c.loop-task.heaviest-bits)) (take_all c.loop-task.task-index c.args.tasks.now c.loop-task-test.false) c.loop-task.invariant.1
