use Rattle.std.proofs.Common.{◌≡◌, ℕ, List, take}
use Rattle.af_role.specs.declared.action.Action.{Action}
use Rattle.af_role.specs.Pairs.{on_part}
use Rattle.af_role.specs.Roles.{contains_pair}
use Rattle.af_role.specs.ActionSets.{has}
use Rattle.af_role.specs.Access.{listed_pairs}
use Rattle.af_role.proofs.access.AccessControl.actions_of.Given as goal

abbrev pub invariant-loop-row : goal.invariant-loop-row
invariant-loop-row l = (dag : List ℕ) (action : Action) → has l.actions action ≡ contains_pair (listed_pairs dag (take l.row-index l.row-items) l.role) (on_part l.part action dag)
