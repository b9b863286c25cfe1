use Rattle.std.proofs.Common.{ap, ◌∙◌}
use Rattle.af_policy.specs.SharedRows.{without}
use Rattle.af_policy.proofs.RoleLemmas.{ordered-without_role}
use Rattle.af_policy.proofs.role_table.RoleTable.remove.Goals as goal

pub invariant_of-self-2 : goal.invariant_of-self-2
invariant_of-self-2 c =
    rw (c.in_ok-remove.ensures.ok ∙ ap (without (λ role. role.name) c.self.inside.by_name) (c.as_bytes.ensures.value ∙ c.as_str.ensures.text))
    (ordered-without_role c.args.name.now c.self.inside.by_name c.self.invariant)
