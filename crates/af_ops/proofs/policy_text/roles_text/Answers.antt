use Rattle.std.proofs.Common.{◌∙◌, codes, rules}
use Rattle.af_ops.specs.PolicyTexts.{role_fields}
use Rattle.af_ops.proofs.PageLemmas.{all_now}
use Rattle.af_ops.proofs.policy_text.roles_text.Goals as goal

pub returns : goal.returns
returns c =
    c.in_ok-text.ensures
    ∙ all_now (codes "roles") (λ row. row.now) role_fields c.as_slice.result.now c.args.page.now.rows c.total.result c.args.page.now.total (search rules) c.total.ensures
