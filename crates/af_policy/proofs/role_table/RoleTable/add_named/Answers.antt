use Rattle.af_role.specs.declared.action.Action.TheVariants.{Read}
use Rattle.af_role.specs.Pairs.{on_dag}
use Rattle.af_policy.specs.Grants.{role_lists}
use Rattle.af_policy.specs.Views.{is_named}
use Rattle.af_policy.proofs.ViewLemmas.{tested_more}
use Rattle.af_policy.proofs.role_table.RoleTable.add_named.Goals as goal

pub loop-name-preserved : goal.loop-name-preserved
loop-name-preserved c dag =
    tested_more (λ name. role_lists c.args.self.now name (on_dag Read dag)) c.args.names.now c.loop-name.name-index c.name-item.result c.name-item.is c.loop-name-test.true
    (is_named c.args.named.now.rows dag) (is_named c.loop-name.named.rows dag) (is_named c.add_named_of.new.named.rows dag)
    (c.loop-name.invariant dag) (c.in_ok-add_named_of.ensures dag)
