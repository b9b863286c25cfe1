use Rattle.std.proofs.Common.{◌≡◌, codes, false, map, rules}
use Rattle.af_ops.specs.PolicyTexts.{pair_data}
use Rattle.af_ops.proofs.TextLemmas.{more, told_now}
use Rattle.af_ops.proofs.policy_text.put_role.Goals as goal

pub returns : goal.returns
returns c =
    let pairs : map (λ pair. pair.now) c.as_slice.result.now ≡ c.args.permissions.now = search rules in
    let actions = told_now false c.args.out.now c.rows.new.self (codes "actions") (λ pair. pair.now) pair_data c.as_slice.result.now c.args.permissions.now pairs c.in_ok-rows.ensures in
    rw (← c.as_str.ensures.text) (more actions c.in_ok-text.ensures)
