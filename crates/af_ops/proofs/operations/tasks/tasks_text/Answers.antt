use Rattle.std.proofs.Common.{◌∙◌, codes, length, rules}
use Rattle.af_ops.specs.Effects.{tasks_told}
use Rattle.af_ops.specs.Rows.{task_fields}
use Rattle.af_ops.proofs.PageLemmas.{all_same}
use Rattle.af_ops.proofs.operations.tasks.tasks_text.Goals as goal

pub returns : goal.returns
returns c =
    c.in_ok-body.ensures
    ∙ all_same (codes "tasks") task_fields c.as_slice.result.now (tasks_told c.args.dag.now.tasks) _ (length c.args.dag.now.tasks) (search rules) (search rules)
