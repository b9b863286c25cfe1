use Rattle.std.proofs.Common.{ap, ◌∙◌}
use Rattle.af_policy.specs.Rows.{PolicyRows, role_in_use}
use Rattle.af_policy.proofs.PlaceLemmas.{within-without_role}
use Rattle.af_policy.proofs.RemovalLemmas.{roles_exist-without_role}
use Rattle.af_policy.proofs.tables.Tables.take_role.Goals as goal

pub invariant_of-self-2 : goal.invariant_of-self-2
invariant_of-self-2 c = record {
  exist =
      rw c.in_ok-remove.ensures.ok
      (roles_exist-without_role c.self.inside.users c.self.inside.roles c.args.name.now
      (ap (λ (policy : PolicyRows). role_in_use policy.users c.args.name.now) c.self.view_is ∙ c.requires) c.self.invariant.exist);
  counted = c.self.invariant.counted;
  within = rw c.in_ok-remove.ensures.ok (within-without_role c.self.inside.users c.self.inside.roles c.self.invariant.within c.args.name.now);
}
