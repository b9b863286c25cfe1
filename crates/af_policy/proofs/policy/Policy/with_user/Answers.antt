use Rattle.std.proofs.Common.{◌≡◌, sym, ap, ◌∙◌}
use Rattle.af_policy.specs.Rows.{PolicyRows, has_admin, has_roles, with_user}
use Rattle.af_policy.proofs.ChangeLemmas.{has_admin-with_user, has_roles-known}
use Rattle.af_policy.proofs.policy.Policy.with_user.Goals as goal

pub invariant_of-result : goal.invariant_of-result
invariant_of-result c =
    let tables : c.in_ok-tables.tables ≡ c.args.self.now = c.in_ok-tables.ensures ∙ c.self.view_is
    in ap (λ (policy : PolicyRows). has_admin policy.users) c.in_ok-put_user.ensures.ok
    ∙ (λ i. has_admin (with_user ((tables i).users) (c.in_ok-user.ensures i)))
    ∙ has_admin-with_user c.args.user.now c.args.self.now.users c.requires.name
    (ap (λ (policy : PolicyRows). has_admin policy.users) (sym c.self.view_is) ∙ c.self.invariant)

pub put_user-requires-clause-roles : goal.put_user-requires-clause-roles
put_user-requires-clause-roles c =
    let tables : c.in_ok-tables.tables ≡ c.args.self.now = c.in_ok-tables.ensures ∙ c.self.view_is
    in (λ i. has_roles ((tables i).roles) ((c.in_ok-user.ensures i).roles))
    ∙ has_roles-known c.args.self.now.roles c.args.user.now.roles c.requires.roles
