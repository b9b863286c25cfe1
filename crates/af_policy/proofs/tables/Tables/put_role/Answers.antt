use Rattle.std.proofs.Common.{◌≡◌, ◌<◌, ◌⊎◌, true, length, sym, subst}
use Rattle.af_policy.specs.Rows.{PolicyRows, has_role, most_roles}
use Rattle.af_policy.proofs.DraftLemmas.{roles_exist-with_role}
use Rattle.af_policy.proofs.PlaceLemmas.{within-with_role}
use Rattle.af_policy.proofs.tables.Tables.put_role.Goals as goal

pub invariant_of-self-2 : goal.invariant_of-self-2
invariant_of-self-2 c =
    let room = subst (λ (policy : PolicyRows). (has_role policy.roles c.args.role.name ≡ true) ⊎ (length policy.roles < most_roles)) (sym c.self.view_is) c.requires
    in record {
      exist = rw c.in_ok-put.ensures.ok (roles_exist-with_role c.self.inside.users c.self.inside.roles c.args.role c.self.invariant.exist);
      counted = c.self.invariant.counted;
      within = rw c.in_ok-put.ensures.ok (within-with_role c.self.inside.users c.self.inside.roles c.self.invariant.within c.args.role c.facts.ensures.names room);
    }
