use Rattle.std.proofs.Common.{subst}
use Rattle.af_policy.specs.Rows.{IsPolicy}
use Rattle.af_policy.proofs.policy.Policy.conditions.Goals as goal

pub returns : goal.returns
returns c =
    subst IsPolicy c.self.view_is (record {
      user_names_ascend = c.facts.ensures.users;
      role_names_ascend = c.facts.ensures.roles;
      digests_differ = c.facts.ensures.digests;
      roles_exist = c.facts.ensures.exist;
      some_admin = c.self.invariant;
      within_limits = c.facts.ensures.within;
      permissions_ascend = c.facts.ensures.permissions;
    })
