use Rattle.std.proofs.Common.{◌≡◌, ◌⊎◌, subst}
use Rattle.af_role.specs.Roles.{RoleRow}
use Rattle.af_role.specs.Access.{synced_role}
use Rattle.af_policy.specs.Rows.{with_role}
use Rattle.af_policy.proofs.SyncLemmas.{equal_self, put_each}
use Rattle.af_policy.proofs.role_sync.sync_each.Goals as goal

pub loop-row-preserved : goal.loop-row-preserved
loop-row-preserved c =
    put_each (λ role. role.name) (synced_role c.args.dag.now c.args.access.now) (λ role. equal_self role.name)
    c.args.rows.now c.loop-row.row-index c.row-item.result c.loop-row.made c.sync_row.new.made c.row-item.is c.loop-row-test.true
    c.loop-row.invariant c.facts.ensures
    (subst (λ (role : RoleRow). (c.sync_row.new.made ≡ with_role c.loop-row.made (synced_role c.args.dag.now c.args.access.now role)) ⊎ ((c.sync_row.new.made ≡ c.loop-row.made) × (synced_role c.args.dag.now c.args.access.now role ≡ role)))
    c.masked.ensures c.in_ok-sync_row.ensures)
