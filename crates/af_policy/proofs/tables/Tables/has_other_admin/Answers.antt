use Rattle.std.proofs.Common.{◌≡◌, codes, not, nat_eq, refl, sym, ap, ◌∙◌, Some}
use Rattle.af_policy.specs.Rows.{PolicyRows, found_user, has_admin, without_user}
use Rattle.af_policy.specs.Uses.{mentions, uses_in}
use Rattle.af_policy.proofs.UseLemmas.{mentions-without_user, others_count, role_in_use-mentions}
use Rattle.af_policy.proofs.tables.Tables.has_other_admin.Goals as goal

pub returns : goal.returns
returns c =
    let users = c.self.inside.users
    in let found : found_user users c.args.name.now ≡ Some c.args.user.now = ap (λ (policy : PolicyRows). found_user policy.users c.args.name.now) c.self.view_is ∙ c.requires
    in let whole = mentions-without_user c.args.user.now c.args.name.now (codes "Admin") users c.facts.ensures.ascend found
    in (λ i. not (nat_eq ((c.count.ensures ∙ c.self.invariant.counted (codes "Admin") refl) i) (c.admin_count.ensures i)))
    ∙ others_count (mentions users (codes "Admin")) (uses_in c.args.user.now.roles (codes "Admin")) (mentions (without_user users c.args.name.now) (codes "Admin")) whole
    ∙ sym (role_in_use-mentions (without_user users c.args.name.now) (codes "Admin"))
    ∙ ap (λ (policy : PolicyRows). has_admin (without_user policy.users c.args.name.now)) c.self.view_is
