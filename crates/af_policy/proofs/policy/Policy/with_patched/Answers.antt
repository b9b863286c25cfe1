use Rattle.std.proofs.Common.{◌≡◌, sym, ap, subst, ◌∙◌}
use Rattle.af_policy.specs.Rows.{NamesAscend, PolicyRows, digests_differ, found_user, has_admin, has_digest, has_roles, roles_exist, user_names, without_user}
use Rattle.af_policy.specs.Changes.{replaced}
use Rattle.af_policy.proofs.ChangeLemmas.{has_digest-patched, has_roles-patched}
use Rattle.af_policy.proofs.policy.Policy.with_patched.Goals as goal

pub set_user-requires-clause-found : goal.set_user-requires-clause-found
set_user-requires-clause-found c =
    let tables : c.in_ok-tables.tables ≡ c.args.self.now = c.in_ok-tables.ensures ∙ c.self.view_is
    in (λ i. found_user ((tables i).users) ((c.in_ok-row.ensures i).name)) ∙ c.requires.found

pub set_user-requires-clause-roles : goal.set_user-requires-clause-roles
set_user-requires-clause-roles c =
    let tables : c.in_ok-tables.tables ≡ c.args.self.now = c.in_ok-tables.ensures ∙ c.self.view_is
    in (λ i. has_roles ((tables i).roles) ((c.in_ok-row.ensures i).roles))
    ∙ has_roles-patched c.args.self.now.users c.args.self.now.roles c.args.patch.now c.args.user.now c.requires.found
    (ap roles_exist (sym c.self.view_is) ∙ c.facts.ensures.exist) c.requires.roles

pub set_user-requires-clause-digest : goal.set_user-requires-clause-digest
set_user-requires-clause-digest c =
    let tables : c.in_ok-tables.tables ≡ c.args.self.now = c.in_ok-tables.ensures ∙ c.self.view_is
    in (λ i. has_digest (without_user ((tables i).users) ((c.in_ok-row.ensures i).name)) ((c.in_ok-row.ensures i).digest))
    ∙ has_digest-patched c.args.self.now.users c.args.self.now.roles c.args.patch.now c.args.user.now c.requires.found
    (subst (λ (policy : PolicyRows). NamesAscend (user_names policy.users)) c.self.view_is c.facts.ensures.users)
    (ap (λ (policy : PolicyRows). digests_differ policy.users) (sym c.self.view_is) ∙ c.facts.ensures.digests) c.requires.digest

pub invariant_of-result : goal.invariant_of-result
invariant_of-result c =
    let tables : c.in_ok-tables.tables ≡ c.args.self.now = c.in_ok-tables.ensures ∙ c.self.view_is
    in ap (λ (policy : PolicyRows). has_admin policy.users) c.in_ok-set_user.ensures
    ∙ (λ i. has_admin (replaced ((tables i).users) (c.in_ok-row.ensures i)))
    ∙ c.requires.admin
