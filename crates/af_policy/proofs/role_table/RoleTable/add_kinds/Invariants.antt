use Rattle.std.proofs.Common.{◌≡◌, ◌||◌, take}
use Rattle.af_role.specs.declared.action.Action.{Action}
use Rattle.af_role.specs.declared.resource.ResourceKind.{ResourceKind}
use Rattle.af_role.specs.KindMasks.{kind_has}
use Rattle.af_role.specs.Pairs.{on_kind}
use Rattle.af_policy.specs.Grants.{some_role_lists}
use Rattle.af_policy.proofs.role_table.RoleTable.add_kinds.Given as goal

abbrev pub invariant-loop-name : goal.invariant-loop-name
invariant-loop-name l =
    (kind : ResourceKind) (action : Action) → kind_has l.kinds kind action ≡ (kind_has l.initial.kinds kind action || some_role_lists l.self (take l.name-index l.names) (on_kind action kind))
