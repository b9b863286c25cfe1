use Rattle.std.proofs.Common.{◌∙◌, codes, length, rules}
use Rattle.af_listing.specs.Pages.{cut}
use Rattle.af_ops.specs.Effects.{instances_told}
use Rattle.af_ops.specs.Rows.{instance_fields}
use Rattle.af_ops.proofs.PageLemmas.{all_same}
use Rattle.af_ops.proofs.operations.instances.instances_text.Goals as goal

pub returns : goal.returns
returns c =
    let told = instances_told c.args.dag.now.tasks c.args.run.now in
    c.in_ok-body.ensures
    ∙ all_same (codes "task_instances") instance_fields c.cut-shown.result.now (cut c.args.window told) _ (length told) (search rules) (search rules)
