use Rattle.std.proofs.Common.{◌∙◌, codes, length, rules}
use Rattle.af_listing.specs.Pages.{cut}
use Rattle.af_ops.specs.Rows.{variable_fields}
use Rattle.af_ops.proofs.PageLemmas.{late_now}
use Rattle.af_ops.proofs.operations.variables.variables_text.Goals as goal

pub returns : goal.returns
returns c =
    c.in_ok-body.ensures
    ∙ late_now (codes "variables") (λ row. row.now) variable_fields c.as_slice.result.now (cut c.args.window c.args.all.now) _ (length c.args.all.now) (search rules) (search rules)
