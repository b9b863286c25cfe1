use Rattle.std.proofs.Common.{◌∙◌, ap, is_some}
use Rattle.af_policy.specs.Rows.{has_role, same_name}
use Rattle.af_policy.specs.SharedRows.{found}
use Rattle.af_policy.proofs.NameLemmas.{is_some-find}
use Rattle.af_policy.proofs.role_table.RoleTable.has.Goals as goal

pub returns : goal.returns
returns c =
    c.has.ensures
    ∙ ap (λ name. is_some (found (λ role. role.name) c.self.inside.by_name name)) (c.as_bytes.ensures.value ∙ c.as_str.ensures.text)
    ∙ is_some-find (λ role. same_name c.args.name.now role.name) c.self.inside.by_name
    ∙ ap (λ roles. has_role roles c.args.name.now) c.self.view_is
