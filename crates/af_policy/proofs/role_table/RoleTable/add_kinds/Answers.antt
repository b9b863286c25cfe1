use Rattle.af_role.specs.KindMasks.{kind_has}
use Rattle.af_role.specs.Pairs.{on_kind}
use Rattle.af_policy.specs.Grants.{role_lists}
use Rattle.af_policy.proofs.ViewLemmas.{tested_more}
use Rattle.af_policy.proofs.role_table.RoleTable.add_kinds.Goals as goal

pub loop-name-preserved : goal.loop-name-preserved
loop-name-preserved c kind action =
    tested_more (λ name. role_lists c.args.self.now name (on_kind action kind)) c.args.names.now c.loop-name.name-index c.name-item.result c.name-item.is c.loop-name-test.true
    (kind_has c.args.kinds.now kind action) (kind_has c.loop-name.kinds kind action) (kind_has c.add_kinds_of.new.kinds kind action)
    (c.loop-name.invariant kind action) (c.add_kinds_of.ensures kind action)
