-- What is shown of one row, a DAG, a run, an instance, a pool, a variable, a role or a user: it is the row that stands at that step, and it is
-- shown to a user whose roles list the permission to read it (Airflow 2, "Access Control" and "Stable REST API").
use Rattle.std.specs.Prelude.{◌≡◌, ℕ, List, Option, Some, ⊤}
use Rattle.serde_json.specs.Written.{compact_text}
use Rattle.af_role.specs.declared.action.Action.TheVariants.{Read}
use Rattle.af_role.specs.declared.resource.ResourceKind.{ResourceKind}
use Rattle.af_role.specs.declared.resource.ResourceKind.TheVariants.{Pools, Roles, TaskInstances, Users, Variables}
use Rattle.af_role.specs.Pairs.{on_kind}
use Rattle.af_role.specs.Roles.{RoleRow}
use Rattle.af_policy.specs.declared.policy_read.PolicyRead.TheVariants as read
use Rattle.af_policy.specs.Identity.{bearer_of}
use Rattle.af_policy.specs.Rows.{PolicyRows, UserRow, found_user}
use Rattle.af_policy.specs.Shown.{shown_user}
use Rattle.af_policy.specs.Tables.{found_role, permissions_of}
use Rattle.af_pool.specs.Pools.{pool_of}
use Rattle.af_pool.specs.declared.pool.Pool.{Pool}
use Rattle.af_runs.specs.Runs.{run_of}
use Rattle.af_runs.specs.declared.run.Run.{Run}
use Rattle.af_sched.specs.Holding.{held_of}
use Rattle.af_sched.specs.State.{StateRows, dag_of}
use Rattle.af_sched.specs.declared.dag_row.DagRow.{DagRow}
use Rattle.af_vars.specs.Variables.{variable_of}
use Rattle.af_vars.specs.declared.variable.Variable.{Variable}
use Rattle.af_ops.specs.declared.call.Call.TheVariants as call
use Rattle.af_ops.specs.declared.op.Op.TheVariants as op
use Rattle.af_ops.specs.declared.policy_op.PolicyOp.TheVariants as asks
use Rattle.af_ops.specs.declared.pool_op.PoolOp.TheVariants as pool
use Rattle.af_ops.specs.declared.shown_answer.Shown.{Shown}
use Rattle.af_ops.specs.declared.status.Status.TheVariants as status
use Rattle.af_ops.specs.declared.variable_op.VariableOp.TheVariants as variable
use Rattle.af_ops.specs.Effects.{instance_of}
use Rattle.af_ops.specs.Fields.{object_of}
use Rattle.af_ops.specs.PolicyTexts.{me_fields, role_data, user_data}
use Rattle.af_ops.specs.Replies.{dag_data, instance_data, pool_data, run_data, variable_data}
use Rattle.af_ops.specs.Rows.{InstanceTold}
use Rattle.af_world.specs.declared.step.Step.TheVariants as step
use Rattle.af_world.specs.Laws.{IsUnder}
use Rattle.af_world.specs.Moving.{Move}
use Rattle.af_world.specs.Rules.{MayRead, MaySeeRuns, RolesList}
use Rattle.af_world.specs.Steps.{Moves}
use Rattle.af_world.specs.Worlds.{World, last_version}

-- such a text is shown to the token's user, who may do this under the version that the answer names
pub record ShownTo (w : World) (token : Option (List ℕ)) (shown : Shown) (May : PolicyRows → List ℕ → Type 0) (IsText : PolicyRows → List ℕ → List ℕ → Type 0) : Type 0 where
  pub policy : PolicyRows
  pub user : List ℕ
  pub text : List ℕ
  pub under : IsUnder w shown policy
  pub bearer : bearer_of policy token ≡ Some user
  pub may : May policy user
  pub body : shown.body ≡ Some text
  pub is : IsText policy user text

-- ---- who may read it

-- the user's roles list a permission to read all of a kind
abbrev pub ReadsAll : ResourceKind → PolicyRows → List ℕ → Type 0
ReadsAll kind policy user = RolesList policy user (on_kind Read kind)

abbrev pub ReadsRunsOf : List ℕ → PolicyRows → List ℕ → Type 0
ReadsRunsOf dag_id policy user = MaySeeRuns policy user dag_id

abbrev pub ReadsInstancesOf : List ℕ → PolicyRows → List ℕ → Type 0
ReadsInstancesOf dag_id policy user = ReadsRunsOf dag_id policy user × ReadsAll TaskInstances policy user

-- ---- rows of the state

abbrev pub IsOfDag : StateRows → List ℕ → List ℕ → Type 0
IsOfDag state dag_id text = (row : DagRow) × (dag_of state.dags dag_id ≡ Some row) × (text ≡ compact_text (dag_data row))

abbrev pub IsOfRun : StateRows → List ℕ → List ℕ → List ℕ → Type 0
IsOfRun state dag_id run_id text = (run : Run) × (run_of state.runs dag_id run_id ≡ Some run) × (text ≡ compact_text (run_data run))

-- the instance of the task's place in the definition
abbrev pub IsOfInstance : StateRows → List ℕ → List ℕ → List ℕ → List ℕ → Type 0
IsOfInstance state dag_id run_id task_id text =
    (row : DagRow) × (run : Run) × (told : InstanceTold) × (dag_of state.dags dag_id ≡ Some row) × (run_of state.runs dag_id run_id ≡ Some run)
    × (instance_of row.dag.tasks run task_id ≡ Some told) × (text ≡ compact_text (instance_data told))

-- a pool, with what instances hold of it
abbrev pub IsOfPool : StateRows → List ℕ → List ℕ → Type 0
IsOfPool state name text =
    (row : Pool) × (pool_of state.pools name ≡ Some row)
    × (text ≡ compact_text (pool_data (record { name = row.name; slots = row.slots; held = held_of state row.name })))

abbrev pub IsOfVariable : StateRows → List ℕ → List ℕ → Type 0
IsOfVariable state key text =
    (row : Variable) × (variable_of state.variables key ≡ Some row) × (text ≡ compact_text (variable_data row))

-- a row that is shown stands in the state at that step, under the name that is asked for, and is shown under the permission to read it
abbrev pub RowsShownStand : Type 0
RowsShownStand =
    (w : World) (session : ℕ) (token : Option (List ℕ)) (t : ℕ) (move : Move) (shown : Shown) → move.answer ≡ Some shown → shown.status ≡ status.Ok
    → ((dag_id : List ℕ) → Moves w (step.Act session token (call.State (op.GetDag dag_id)) t) move
    → ShownTo w token shown (λ policy user. MayRead policy user dag_id) (λ policy user. IsOfDag w.ledger.state dag_id))
    × ((dag_id run_id : List ℕ) → Moves w (step.Act session token (call.State (op.GetRun dag_id run_id)) t) move
    → ShownTo w token shown (ReadsRunsOf dag_id) (λ policy user. IsOfRun w.ledger.state dag_id run_id))
    × ((dag_id run_id task_id : List ℕ) → Moves w (step.Act session token (call.State (op.GetInstance dag_id run_id task_id)) t) move
    → ShownTo w token shown (ReadsInstancesOf dag_id) (λ policy user. IsOfInstance w.ledger.state dag_id run_id task_id))
    × ((name : List ℕ) → Moves w (step.Act session token (call.State (op.Pool (pool.Get name))) t) move
    → ShownTo w token shown (ReadsAll Pools) (λ policy user. IsOfPool w.ledger.state name))
    × ((key : List ℕ) → Moves w (step.Act session token (call.State (op.Variable (variable.Get key))) t) move
    → ShownTo w token shown (ReadsAll Variables) (λ policy user. IsOfVariable w.ledger.state key))

-- ---- rows of the policy

abbrev pub IsOfRole : List ℕ → PolicyRows → List ℕ → List ℕ → Type 0
IsOfRole name policy user text = (row : RoleRow) × (found_role policy.roles name ≡ Some row) × (text ≡ compact_text (role_data row))

abbrev pub IsOfUser : List ℕ → PolicyRows → List ℕ → List ℕ → Type 0
IsOfUser name policy user text = (row : UserRow) × (found_user policy.users name ≡ Some row) × (text ≡ compact_text (user_data (shown_user row)))

-- the token's user, the permissions of that user's roles, and the version
abbrev pub IsOfMe : ℕ → PolicyRows → List ℕ → List ℕ → Type 0
IsOfMe version policy user text =
    (row : UserRow) × (found_user policy.users user ≡ Some row)
    × (text ≡ compact_text (object_of (me_fields (record { me = record { user = shown_user row; permissions = permissions_of policy.roles row.roles }; version = version }))))

-- a role or a user that is shown stands in the policy of the version that the answer names, under the name that is asked for, and is shown
-- under the permission to read it; who one is, is shown to anybody who has a token
abbrev pub PolicyRowsShownStand : Type 0
PolicyRowsShownStand =
    (w : World) (session : ℕ) (token : Option (List ℕ)) (move : Move) (shown : Shown) → move.answer ≡ Some shown → shown.status ≡ status.Ok
    → ((name : List ℕ) → Moves w (step.Me session token (asks.Read (read.Role name))) move → ShownTo w token shown (ReadsAll Roles) (IsOfRole name))
    × ((name : List ℕ) → Moves w (step.Me session token (asks.Read (read.User name))) move → ShownTo w token shown (ReadsAll Users) (IsOfUser name))
    × (Moves w (step.Me session token asks.Me) move → ShownTo w token shown (λ policy user. ⊤) (IsOfMe (last_version w)))
