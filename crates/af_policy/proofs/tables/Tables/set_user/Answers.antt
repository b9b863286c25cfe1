use Rattle.std.proofs.Common.{◌≡◌, ◌+◌, ◌-◌, true, Some, ap, ◌∙◌, arith}
use Rattle.af_policy.specs.Changes.{replaced}
use Rattle.af_policy.specs.Rows.{PolicyRows, found_user, has_roles, without_user}
use Rattle.af_policy.specs.Uses.{count_at, mentions, uses_in}
use Rattle.af_policy.proofs.DraftLemmas.{roles_exist-with_user}
use Rattle.af_policy.proofs.PlaceLemmas.{within-replaced}
use Rattle.af_policy.proofs.RemovalLemmas.{has_user-without_user, roles_exist-without_user}
use Rattle.af_policy.proofs.UseLemmas.{mentions-with_user, mentions-without_user}
use Rattle.af_policy.proofs.tables.Tables.set_user.Goals as goal

pub invariant_of-self-2 : goal.invariant_of-self-2
invariant_of-self-2 c =
    let users = c.self.inside.users
    in let user = c.args.user
    in let roles = c.self.inside.roles
    in let found : found_user users user.name ≡ Some c.args.before.now = ap (λ (policy : PolicyRows). found_user policy.users user.name) c.self.view_is ∙ c.requires.found
    in let has : has_roles roles user.roles ≡ true = ap (λ (policy : PolicyRows). has_roles policy.roles user.roles) c.self.view_is ∙ c.requires.roles
    in record {
      exist =
          rw c.in_ok-replace.ensures.ok
          (roles_exist-with_user (without_user users user.name) roles user has (roles_exist-without_user users roles user.name c.self.invariant.exist));
      counted =
          λ name is.
          let less : count_at c.take_all.new.self name ≡ mentions users name - uses_in c.args.before.now.roles name =
          c.in_ok-take_all.ensures name is
          ∙ (λ i. count_at (c.in_ok-uses.ensures i) name - uses_in (c.roles.ensures i) name)
          ∙ ap (λ n. n - uses_in c.args.before.now.roles name) (c.self.invariant.counted name is)
          in let more : count_at c.add_all.new.self name ≡ count_at c.take_all.new.self name + uses_in user.roles name =
          c.in_ok-add_all.ensures name is ∙ ap (λ names. count_at c.take_all.new.self name + uses_in names name) c.roles-2.ensures
          in let before = mentions-without_user c.args.before.now user.name name users c.facts.ensures.ascend found
          in let after = mentions-with_user user name (without_user users user.name) (has_user-without_user user.name users)
          in let same : mentions c.replace.new.self name ≡ mentions (replaced users user) name = ap (λ rows. mentions rows name) c.in_ok-replace.ensures.ok
          in omega (arith, less, more, before, after, same);
      within = rw c.in_ok-replace.ensures.ok (within-replaced users roles c.self.invariant.within c.args.before.now user c.facts.ensures.ascend found);
    }
