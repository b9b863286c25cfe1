use Rattle.std.proofs.Common.{not, nat_eq, sym, ap, ◌∙◌}
use Rattle.af_policy.specs.Rows.{PolicyRows, role_in_use}
use Rattle.af_policy.proofs.UseLemmas.{role_in_use-mentions}
use Rattle.af_policy.proofs.tables.Tables.is_used.Goals as goal

pub returns : goal.returns
returns c =
    ap (λ n. not (nat_eq n 0)) (c.count.ensures ∙ c.self.invariant.counted c.args.name.now c.requires)
    ∙ sym (role_in_use-mentions c.self.inside.users c.args.name.now)
    ∙ ap (λ (policy : PolicyRows). role_in_use policy.users c.args.name.now) c.self.view_is
