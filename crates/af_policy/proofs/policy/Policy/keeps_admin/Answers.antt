use Rattle.std.proofs.Common.{◌||◌, sym, ap, ◌∙◌}
use Rattle.af_policy.specs.Rows.{PolicyRows, has_admin, without_user}
use Rattle.af_policy.specs.Changes.{patched}
use Rattle.af_policy.proofs.ChangeLemmas.{has_admin-replaced}
use Rattle.af_policy.proofs.policy.Policy.keeps_admin.Goals as goal

pub returns-then-named : goal.returns-then-named
returns-then-named c =
    c.if-named.true
    ∙ ap (λ b. b || has_admin (without_user c.args.self.now.users c.args.patch.now.name)) (sym c.if-named.true ∙ c.names_admin_after-named.ensures)
    ∙ sym (has_admin-replaced (patched c.args.patch.now c.args.user.now) c.args.self.now.users)

pub returns-else-named : goal.returns-else-named
returns-else-named c =
    c.has_other_admin-other.ensures
    ∙ ap (λ (policy : PolicyRows). has_admin (without_user policy.users c.args.patch.now.name)) c.self.view_is
    ∙ ap (λ b. b || has_admin (without_user c.args.self.now.users c.args.patch.now.name)) (sym c.if-named.false ∙ c.names_admin_after-named.ensures)
    ∙ sym (has_admin-replaced (patched c.args.patch.now c.args.user.now) c.args.self.now.users)
