use Rattle.std.proofs.Common.{sym, ap, ◌∙◌}
use Rattle.std.specs.List.{list_any}
use Rattle.af_names.proofs.OrderLemmas.{list_any-map}
use Rattle.af_graph.specs.Graph.{same_name}
use Rattle.af_graph.specs.declared.task_spec.TaskSpec.{TaskSpec}
use Rattle.af_pool.proofs.names_pools.DagNamesPools.names_pool.Goals as goal

pub returns : goal.returns
returns c =
    c.some_task_names.ensures
    ∙ ap (list_any (λ (task : TaskSpec). same_name task.pool c.args.name.now)) c.tasks.ensures
    ∙ sym (list_any-map (λ (task : TaskSpec). task.pool) (λ pool. same_name pool c.args.name.now) c.args.self.now.tasks)
