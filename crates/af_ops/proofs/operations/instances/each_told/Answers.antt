use Rattle.std.proofs.Common.{◌∙◌, arith}
use Rattle.af_graph.specs.declared.task_spec.TaskSpec.{TaskSpec}
use Rattle.af_runs.specs.declared.instance.Instance.{Instance}
use Rattle.af_runs.specs.declared.run.Run.{Run}
use Rattle.af_ops.specs.Rows.{InstanceTold}
use Rattle.af_ops.proofs.TaskLemmas.{zipped_all, zipped_push}
use Rattle.af_ops.proofs.operations.instances.each_told.Goals as goal

of_run : Run → TaskSpec × Instance → InstanceTold
of_run run at = record { run = run; task = at.0; instance = at.1 }

pub loop-place-preserved : goal.loop-place-preserved
unfolding of_run
loop-place-preserved c =
    zipped_push (of_run c.args.run.now) c.args.tasks.now c.args.instances.now c.loop-place.place c.index-tasks-place.result c.index-instances-place.result c.loop-place.all.items c.push.new.self.items c.told.result
    (omega arith) (omega arith) c.index-tasks-place.is c.index-instances-place.is c.loop-place.invariant c.told.ensures c.in_ok-push.ensures.items

pub returns : goal.returns
unfolding of_run
returns c =
    c.loop-place.invariant ∙ zipped_all (of_run c.args.run.now) c.args.tasks.now c.args.instances.now c.loop-place.place (λ i one other. omega (arith, one, other))
