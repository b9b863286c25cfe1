use Rattle.std.proofs.Common.{subst}
use Rattle.af_policy.specs.Rows.{PermissionsAscend}
use Rattle.af_policy.proofs.SyncedRoleLemmas.{stays_both}
use Rattle.af_policy.proofs.masked_role.MaskedRole.is_touched.Goals as goal

pub returns-else-is_touched_on : goal.returns-else-is_touched_on
returns-else-is_touched_on c = record {
  stays = λ equal. stays_both c.args.dag.now c.args.access.now c.args.self.now (subst PermissionsAscend c.self.view_is c.in_order.ensures)
      (c.is_touched_on.ensures.stays c.if-is_touched_on.false)
      (c.is_touched_on-else-is_touched_on.ensures.stays equal);
}
