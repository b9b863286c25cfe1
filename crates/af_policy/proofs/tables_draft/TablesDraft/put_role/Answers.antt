use Rattle.std.proofs.Common.{◌<◌, length, sym, subst}
use Rattle.af_policy.specs.Rows.{PolicyRows, most_roles}
use Rattle.af_policy.proofs.DraftLemmas.{roles_exist-with_role}
use Rattle.af_policy.proofs.PlaceLemmas.{within-new_role}
use Rattle.af_policy.proofs.tables_draft.TablesDraft.put_role.Goals as goal

pub invariant_of-self-2 : goal.invariant_of-self-2
invariant_of-self-2 c =
    rw c.in_ok-put.ensures.ok (
      roles_exist-with_role c.self.inside.users c.self.inside.roles c.args.role c.self.invariant.0,
      within-new_role c.self.inside.users c.self.inside.roles c.self.invariant.1 c.args.role
          (subst (λ (policy : PolicyRows). length policy.roles < most_roles) (sym c.self.view_is) c.requires),
    )
