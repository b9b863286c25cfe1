use Rattle.std.proofs.Common.{◌≡◌, ℕ, List, ◌||◌, take}
use Rattle.af_role.specs.declared.action.Action.{Action}
use Rattle.af_role.specs.Pairs.{on_part}
use Rattle.af_role.specs.Roles.{contains_pair}
use Rattle.af_role.specs.ActionSets.{has}
use Rattle.af_role.specs.Access.{pairs_at}
use Rattle.af_role.proofs.access.add_texts.Given as goal

abbrev pub invariant-loop-text : goal.invariant-loop-text
invariant-loop-text l = (dag : List ℕ) (action : Action) → has l.actions action ≡ (contains_pair (pairs_at l.part dag (take l.text-index l.texts)) (on_part l.part action dag) || has l.initial.actions action)
