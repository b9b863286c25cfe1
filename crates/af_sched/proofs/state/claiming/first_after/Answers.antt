use Rattle.std.proofs.Common.{◌≡◌, ◌&&◌, ap, subst, rules, Bool, List, false}
use Rattle.std.specs.Prelude.{nat_lt}
use Rattle.af_graph.specs.States.{same_state}
use Rattle.af_graph.specs.declared.task_spec.TaskSpec.{TaskSpec}
use Rattle.af_graph.specs.declared.task_state.TaskState.TheVariants.{Queued}
use Rattle.af_runs.specs.declared.instance.Instance.{Instance}
use Rattle.af_sched.specs.Claims.{is_claimable}
use Rattle.af_sched.specs.Placed.{placed_of}
use Rattle.af_sched.specs.State.{tasks_of}
use Rattle.af_sched.specs.Steps.{Continues, has_queued}
use Rattle.af_sched.proofs.PlacedLemmas.{none_placed, skips_none}
use Rattle.af_sched.proofs.state.claiming.first_after.Goals as goal

pub returns-then-not-has_queued : goal.returns-then-not-has_queued
returns-then-not-has_queued c =
    let tasks : List TaskSpec = tasks_of c.args.dags.now c.args.run.now.dag_id in
    let none : has_queued c.args.run.now ≡ false = search rules in
    skips_none is_claimable (placed_of tasks c.args.run.now) c.args.so_far (λ placed has.
    ap (λ (b : Bool). b && nat_lt placed.instance.try_number 4_294_967_295) (none_placed (λ (instance : Instance). same_state instance.state Queued) tasks c.args.run.now none placed has))

pub returns : goal.returns
returns c =
    subst (λ (tasks : List TaskSpec). Continues is_claimable (placed_of tasks c.args.run.now) c.args.so_far c.first_after_run.result) c.tasks_of.ensures c.first_after_run.ensures
