use Rattle.std.proofs.Common.{sym, ap, ◌∙◌}
use Rattle.af_role.specs.Access.{is_admin_name, listed_pairs}
use Rattle.af_role.specs.Pairs.{on_part}
use Rattle.af_role.specs.Roles.{RoleRow, contains_pair}
use Rattle.af_policy.proofs.SyncedRoleLemmas.{admin_stays, other_stays}
use Rattle.af_policy.proofs.masked_role.MaskedRole.is_touched_on.Goals as goal

pub returns-then-is_admin : goal.returns-then-is_admin
returns-then-is_admin c = record {
  stays = λ equal. admin_stays c.args.dag.now c.args.access.now c.args.self.now c.args.part
      c.on-has.result c.actions_of-listed.result
      (λ action. c.on-has.ensures action ∙ c.dags.ensures c.args.part c.args.dag.now action)
      (λ action. c.actions_of-listed.ensures c.args.dag.now action
      ∙ ap (λ name. contains_pair (listed_pairs c.args.dag.now c.args.access.now name) (on_part c.args.part action c.args.dag.now)) (c.name.ensures ∙ ap (λ (role : RoleRow). role.name) c.self.view_is))
      (ap (λ (role : RoleRow). is_admin_name role.name) (sym c.self.view_is) ∙ sym c.is_admin.ensures ∙ c.if-is_admin.true)
      c.with_all.result c.with_all.ensures (sym c.ne.ensures ∙ equal);
}

pub returns-else-is_admin : goal.returns-else-is_admin
returns-else-is_admin c = record {
  stays = λ equal. other_stays c.args.dag.now c.args.access.now c.args.self.now c.args.part
      c.on-has.result c.actions_of-listed.result
      (λ action. c.on-has.ensures action ∙ c.dags.ensures c.args.part c.args.dag.now action)
      (λ action. c.actions_of-listed.ensures c.args.dag.now action
      ∙ ap (λ name. contains_pair (listed_pairs c.args.dag.now c.args.access.now name) (on_part c.args.part action c.args.dag.now)) (c.name.ensures ∙ ap (λ (role : RoleRow). role.name) c.self.view_is))
      (ap (λ (role : RoleRow). is_admin_name role.name) (sym c.self.view_is) ∙ sym c.is_admin.ensures ∙ c.if-is_admin.false)
      (sym c.ne-else-is_admin.ensures ∙ equal);
}
