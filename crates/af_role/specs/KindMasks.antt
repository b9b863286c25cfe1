-- The actions on whole kinds of resources, as a set for each kind.
use Rattle.std.specs.Prelude.{ℕ, zero, suc, List, [], ◌∷◌, Bool, false}
use Rattle.af_role.specs.declared.action.Action.{Action}
use Rattle.af_role.specs.declared.actions.Actions.{Actions}
use Rattle.af_role.specs.declared.resource.ResourceKind.{ResourceKind}
use Rattle.af_role.specs.declared.kind_mask.KindMask.{KindMask}
use Rattle.af_role.specs.Resources.{kind_rank}
use Rattle.af_role.specs.ActionSets.{has}

-- the set at a place has the action
abbrev pub has_at : List Actions → ℕ → Action → Bool
has_at [] place action = false
has_at (set ∷ sets) zero action = has set action
has_at (set ∷ sets) (suc place) action = has_at sets place action

-- the action on the kind is there
abbrev pub kind_has : KindMask → ResourceKind → Action → Bool
kind_has mask kind action = has_at mask.sets (kind_rank kind) action
