use Rattle.std.proofs.Common.{◌≡◌, ◌+◌, ◌<◌, length, true, false, sym, ap, subst, ◌∙◌}
use Rattle.af_policy.specs.Rows.{PolicyRows, has_roles, has_user, most_users}
use Rattle.af_policy.specs.Uses.{count_at, mentions, uses_in}
use Rattle.af_policy.proofs.DraftLemmas.{roles_exist-with_user}
use Rattle.af_policy.proofs.PlaceLemmas.{within-with_user}
use Rattle.af_policy.proofs.UseLemmas.{mentions-with_user}
use Rattle.af_policy.proofs.tables.Tables.put_user.Goals as goal

pub invariant_of-self-2 : goal.invariant_of-self-2
invariant_of-self-2 c =
    let has : has_roles c.self.inside.roles c.args.user.roles ≡ true = ap (λ (policy : PolicyRows). has_roles policy.roles c.args.user.roles) c.self.view_is ∙ c.requires.roles
    in let new : has_user c.self.inside.users c.args.user.name ≡ false = ap (λ (policy : PolicyRows). has_user policy.users c.args.user.name) c.self.view_is ∙ c.requires.name
    in record {
      exist = rw c.in_ok-insert.ensures.ok (roles_exist-with_user c.self.inside.users c.self.inside.roles c.args.user has c.self.invariant.exist);
      counted =
          λ name is. c.in_ok-add_all.ensures name is
          ∙ (λ i. count_at (c.in_ok-uses.ensures i) name + uses_in (c.roles.ensures i) name)
          ∙ ap (λ n. n + uses_in c.args.user.roles name) (c.self.invariant.counted name is)
          ∙ sym (mentions-with_user c.args.user name c.self.inside.users new)
          ∙ ap (λ users. mentions users name) (sym c.in_ok-insert.ensures.ok);
      within =
          rw c.in_ok-insert.ensures.ok
          (within-with_user c.self.inside.users c.self.inside.roles c.self.invariant.within c.args.user
          (subst (λ (policy : PolicyRows). length policy.users < most_users) (sym c.self.view_is) c.requires.room));
    }
