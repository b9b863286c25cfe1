use Rattle.std.proofs.Common.{codes, false}
use Rattle.af_ops.specs.PolicyTexts.{named_data}
use Rattle.af_ops.proofs.TextLemmas.{more, told_now}
use Rattle.af_ops.proofs.policy_text.put_user.Goals as goal

pub returns : goal.returns
returns c =
    let roles = told_now false c.args.out.now c.rows.new.self (codes "roles") (λ name. name.now) named_data c.roles.result.now c.args.user.now.roles c.roles.ensures c.in_ok-rows.ensures in
    rw (← c.name.ensures, ← c.as_str.ensures.text) (more roles c.in_ok-text.ensures)
