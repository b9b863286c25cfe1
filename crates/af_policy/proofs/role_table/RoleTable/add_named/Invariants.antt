use Rattle.std.proofs.Common.{◌≡◌, ◌||◌, List, ℕ, take}
use Rattle.af_role.specs.declared.action.Action.TheVariants.{Read}
use Rattle.af_role.specs.Pairs.{on_dag}
use Rattle.af_policy.specs.Grants.{some_role_lists}
use Rattle.af_policy.specs.Views.{is_named}
use Rattle.af_policy.proofs.role_table.RoleTable.add_named.Given as goal

abbrev pub invariant-loop-name : goal.invariant-loop-name
invariant-loop-name l =
    (dag : List ℕ) → is_named l.named.rows dag ≡ (is_named l.initial.named.rows dag || some_role_lists l.self (take l.name-index l.names) (on_dag Read dag))
