-- What a listing of pools, variables, roles or users tells: the page of all of them that is asked for, and how many they are, to a user whose
-- roles list the permission to read them (Airflow 2, "Access Control" and "Stable REST API": collections).
use Rattle.std.specs.Prelude.{◌≡◌, ℕ, List, Option, Some, Ok, codes, length, map}
use Rattle.serde_json.specs.Written.{compact_text}
use Rattle.af_role.specs.declared.resource.ResourceKind.TheVariants.{Pools, Roles, Users, Variables}
use Rattle.af_listing.specs.Windows.{Cut}
use Rattle.af_policy.specs.declared.policy_read.PolicyRead.TheVariants as read
use Rattle.af_policy.specs.declared.span.Span.{Span}
use Rattle.af_policy.specs.Rows.{PolicyRows}
use Rattle.af_policy.specs.Shown.{page_rows, shown_user}
use Rattle.af_pool.specs.declared.pool.Pool.{Pool}
use Rattle.af_sched.specs.Holding.{held_of}
use Rattle.af_sched.specs.State.{StateRows}
use Rattle.af_ops.specs.declared.call.Call.TheVariants as call
use Rattle.af_ops.specs.declared.op.Op.TheVariants as op
use Rattle.af_ops.specs.declared.policy_op.PolicyOp.TheVariants as asks
use Rattle.af_ops.specs.declared.pool_op.PoolOp.TheVariants as pool
use Rattle.af_ops.specs.declared.shown_answer.Shown.{Shown}
use Rattle.af_ops.specs.declared.status.Status.TheVariants as status
use Rattle.af_ops.specs.declared.variable_op.VariableOp.TheVariants as variable
use Rattle.af_ops.specs.Fields.{late_listing_of, listing_of}
use Rattle.af_ops.specs.PolicyTexts.{role_data, user_data}
use Rattle.af_ops.specs.Replies.{pool_data, variable_data}
use Rattle.af_world.specs.declared.step.Step.TheVariants as step
use Rattle.af_world.specs.Laws.{IsPageOf}
use Rattle.af_world.specs.Moving.{Move}
use Rattle.af_world.specs.OneRow.{ReadsAll, ShownTo}
use Rattle.af_world.specs.Steps.{Moves}
use Rattle.af_world.specs.Worlds.{World}

-- ---- of the state

-- each pool with what instances hold of it
abbrev pub IsOfPools : StateRows → Cut → List ℕ → Type 0
IsOfPools state window text =
    IsPageOf state.pools (λ rows total. listing_of (codes "pools") (map (λ (row : Pool). pool_data (record { name = row.name; slots = row.slots; held = held_of state row.name })) rows) total) window text

abbrev pub IsOfVariables : StateRows → Cut → List ℕ → Type 0
IsOfVariables state window text = IsPageOf state.variables (λ rows total. late_listing_of (codes "variables") (map variable_data rows) total) window text

-- a listing tells the page of the rows that stand in the state at that step, under the permission to read them
abbrev pub PagesShownStand : Type 0
PagesShownStand =
    (w : World) (session : ℕ) (token : Option (List ℕ)) (window : Cut) (t : ℕ) (move : Move) (shown : Shown) → move.answer ≡ Some shown → shown.status ≡ status.Ok
    → (Moves w (step.Act session token (call.State (op.Pool (pool.List (Ok window)))) t) move
    → ShownTo w token shown (ReadsAll Pools) (λ policy user. IsOfPools w.ledger.state window))
    × (Moves w (step.Act session token (call.State (op.Variable (variable.List (Ok window)))) t) move
    → ShownTo w token shown (ReadsAll Variables) (λ policy user. IsOfVariables w.ledger.state window))

-- ---- of the policy

abbrev pub IsOfRoles : Span → PolicyRows → List ℕ → List ℕ → Type 0
IsOfRoles span policy user text =
    text ≡ compact_text (listing_of (codes "roles") (map role_data (page_rows span policy.roles)) (length policy.roles))

abbrev pub IsOfUsers : Span → PolicyRows → List ℕ → List ℕ → Type 0
IsOfUsers span policy user text =
    text ≡ compact_text (late_listing_of (codes "users") (map user_data (map shown_user (page_rows span policy.users))) (length policy.users))

-- a listing tells the page of the rows of the policy of the version that the answer names, under the permission to read them
abbrev pub PolicyPagesShownStand : Type 0
PolicyPagesShownStand =
    (w : World) (session : ℕ) (token : Option (List ℕ)) (span : Span) (move : Move) (shown : Shown) → move.answer ≡ Some shown → shown.status ≡ status.Ok
    → (Moves w (step.Me session token (asks.Read (read.Roles span))) move → ShownTo w token shown (ReadsAll Roles) (IsOfRoles span))
    × (Moves w (step.Me session token (asks.Read (read.Users span))) move → ShownTo w token shown (ReadsAll Users) (IsOfUsers span))
