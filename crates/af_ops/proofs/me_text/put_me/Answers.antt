use Rattle.std.proofs.Common.{codes, true}
use Rattle.serde_json.specs.Data.{string}
use Rattle.af_ops.proofs.TextLemmas.{more, told_now}
use Rattle.af_ops.proofs.me_text.put_me.Goals as goal

pub returns : goal.returns
returns c =
    let roles = told_now true c.number.new.self c.names.new.self (codes "roles") (λ name. name.now) (λ text. string text) c.roles.result.now c.args.me.now.user.roles c.roles.ensures c.in_ok-names.ensures in
    rw (← c.from.ensures, ← c.name.ensures, ← c.as_str.ensures.text, ← c.as_permissions.ensures)
    (more (more (more c.in_ok-put_permissions.ensures c.in_ok-number.ensures) roles) c.in_ok-text.ensures)
