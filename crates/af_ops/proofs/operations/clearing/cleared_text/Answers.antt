use Rattle.std.proofs.Common.{◌∙◌, codes, rules}
use Rattle.af_runs.specs.Clears.{chosen_in}
use Rattle.af_ops.specs.Effects.{cleared_told}
use Rattle.af_ops.specs.Rows.{cleared_fields}
use Rattle.af_ops.proofs.PageLemmas.{list_now}
use Rattle.af_ops.proofs.operations.clearing.cleared_text.Goals as goal

pub returns : goal.returns
returns c =
    c.in_ok-body.ensures
    ∙ list_now (codes "task_instances") (λ row. row.now) cleared_fields c.as_slice-2.result.now
    (cleared_told c.args.tasks.now (chosen_in c.args.state.now.rows.runs c.args.filter.now c.args.selection.now)) (search rules)
