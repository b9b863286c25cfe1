-- What a change of the policy that is refused for another reason than who asks says of who asks: the author might make it (this product's own
-- rule: permissions are tested first).
use Rattle.std.specs.Prelude.{◌≡◌, ◌≤◌, ◌⊎◌, ℕ, List, [], ◌++◌, Option, Some, None, codes, decimal}
use Rattle.serde_json.specs.Written.{compact_text}
use Rattle.af_policy.specs.declared.ask.Ask.{Ask}
use Rattle.af_policy.specs.Changes.{needs_of}
use Rattle.af_policy.specs.Identity.{bearer_of}
use Rattle.af_policy.specs.Rows.{PolicyRows}
use Rattle.af_policy.specs.Versions.{asked_kind}
use Rattle.af_ops.specs.declared.policy_op.PolicyOp.TheVariants as asks
use Rattle.af_ops.specs.declared.shown_answer.Shown.{Shown}
use Rattle.af_ops.specs.declared.status.Status.{Status}
use Rattle.af_ops.specs.declared.status.Status.TheVariants.{BadRequest, Conflict, InsufficientStorage, NotFound}
use Rattle.af_ops.specs.Replies.{fault_data}
use Rattle.af_world.specs.declared.step.Step.TheVariants as step
use Rattle.af_world.specs.Moving.{Move}
use Rattle.af_world.specs.Rules.{ListsForEach}
use Rattle.af_world.specs.Steps.{Moves}
use Rattle.af_world.specs.Worlds.{World, last_version, policy_at, seen_by}

-- 400, 404, 409 or 507
abbrev pub IsRefusal : Status → Type 0
IsRefusal it = (it ≡ BadRequest) ⊎ ((it ≡ NotFound) ⊎ ((it ≡ Conflict) ⊎ (it ≡ InsufficientStorage)))

-- under this version the token's user has roles that list a permission for each requirement of the change
pub record IsPermitted (w : World) (version : ℕ) (token : Option (List ℕ)) (ask : Ask) : Type 0 where
  pub policy : PolicyRows
  pub author : List ℕ
  pub under : policy_at w version ≡ Some policy
  pub bearer : bearer_of policy token ≡ Some author
  pub granted : ListsForEach policy author None [] (needs_of (asked_kind ask))

-- so it is under the version that the answer names
pub record IsPermittedThere (w : World) (token : Option (List ℕ)) (ask : Ask) (shown : Shown) : Type 0 where
  pub version : ℕ
  pub names : shown.version ≡ Some version
  pub permitted : IsPermitted w version token ask

-- Another version was made since the one under which it was handed in, and the answer tells which one is the latest. It was permitted under
-- the version under which it was handed in, unless its session had seen a later one: then nothing was decided.
pub record IsOvertaken (w : World) (session at : ℕ) (token : Option (List ℕ)) (ask : Ask) (shown : Shown) : Type 0 where
  pub conflict : shown.status ≡ Conflict
  pub names : shown.version ≡ Some (last_version w)
  pub body : shown.body ≡ Some (compact_text (fault_data Conflict (codes "policy moved to version " ++ decimal (last_version w))))
  pub permitted : (seen_by w session).version ≤ at → IsPermitted w at token ask

-- a change that is refused with 400, 404, 409 or 507 was permitted under the version that the answer names, or it was overtaken
abbrev pub RefusedChangesArePermitted : Type 0
RefusedChangesArePermitted =
    (w : World) (session at : ℕ) (token : Option (List ℕ)) (ask : Ask) (move : Move) (shown : Shown)
    → Moves w (step.Publish session at token (asks.Change ask)) move → move.answer ≡ Some shown → IsRefusal shown.status
    → IsPermittedThere w token ask shown ⊎ IsOvertaken w session at token ask shown
