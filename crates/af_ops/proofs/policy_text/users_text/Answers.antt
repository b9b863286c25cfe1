use Rattle.std.proofs.Common.{◌∙◌, codes, rules}
use Rattle.af_ops.specs.PolicyTexts.{user_fields}
use Rattle.af_ops.proofs.PageLemmas.{late_now}
use Rattle.af_ops.proofs.policy_text.users_text.Goals as goal

pub returns : goal.returns
returns c =
    c.in_ok-text.ensures
    ∙ late_now (codes "users") (λ row. row.now) user_fields c.as_slice.result.now c.args.page.now.rows c.total.result c.args.page.now.total (search rules) c.total.ensures
