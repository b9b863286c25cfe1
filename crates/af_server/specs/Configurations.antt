-- What a whole configuration says, from its bytes: the roles, the users, the pools, the variables and the DAGs in this order,
-- rows in theirs, then the access control of the DAGs, then its limits, and the first fault decides the reason (this product's
-- own rule).
use Rattle.std.specs.Prelude.{ℕ, ◌*◌, List, [], ◌∷◌, length, nat_lt, codes, is_some, ok_or, Result, Ok, Err, if◌then◌else◌, ⊤}
use Rattle.serde_json.specs.Data.{Data}
use Rattle.serde_json.specs.Find.{as_object}
use Rattle.af_policy.specs.Rows.{PolicyRows, has_admin}
use Rattle.af_policy.specs.Drafts.{added_role, added_user, opening}
use Rattle.af_policy.specs.declared.row_fault.RowFault.{RowFault}
use Rattle.af_sched.specs.Scripts.{ScriptRow}
use Rattle.af_sched.specs.State.{StateRows}
use Rattle.af_base.specs.Parsed.{json_of}
use Rattle.af_base.specs.Readings.{◌>>=◌, taking}
use Rattle.af_server.specs.declared.config.limits.Limits.{Limits}
use Rattle.af_server.specs.declared.reason.Reason.{Reason}
use Rattle.af_server.specs.declared.reason.Reason.TheVariants.{Admin, Shape, Syntax, Unreadable}
use Rattle.af_server.specs.Accesses.{access_taken}
use Rattle.af_server.specs.Accounts.{role_in, user_in}
use Rattle.af_server.specs.DagRows.{dag_taken}
use Rattle.af_server.specs.Drafts.{Draft, opening_draft}
use Rattle.af_server.specs.Members.{number_in, optional_list_in}
use Rattle.af_server.specs.PoolRows.{pool_taken}
use Rattle.af_server.specs.Reasons.{row_reason}
use Rattle.af_server.specs.VariableRows.{variable_taken}

-- what the rows of the list of that name make of this, each taken in turn; a list that is absent has none
abbrev pub with_rows : {S : Type 0} → (S → Data → Result S Reason) → List ℕ → Data → S → Result S Reason
with_rows take_row name config made = optional_list_in name config >>= taking take_row made

-- the policy with one more role or user, or why there is none
abbrev pub policy_or : Result PolicyRows RowFault → Result PolicyRows Reason
policy_or (Ok policy) = Ok policy
policy_or (Err fault) = Err (row_reason fault)

abbrev pub role_taken : PolicyRows → Data → Result PolicyRows Reason
role_taken policy row = role_in row >>= (λ role. policy_or (added_role policy role))

abbrev pub user_taken : PolicyRows → Data → Result PolicyRows Reason
user_taken policy row = user_in row >>= (λ user. policy_or (added_user policy user))

-- a policy has a user with the role Admin
abbrev pub with_admin : PolicyRows → Result PolicyRows Reason
with_admin policy = if has_admin policy.users then Ok policy else Err Admin

-- the default roles, then the roles and the users that are listed
abbrev pub policy_in : Data → Result PolicyRows Reason
policy_in config = do
  with_roles ← with_rows role_taken (codes "roles") config opening
  with_users ← with_rows user_taken (codes "users") config with_roles
  with_admin with_users

-- the default pool, then the pools, the variables and the DAGs that are listed
abbrev pub draft_in : Data → Result Draft Reason
draft_in config = do
  with_pools ← with_rows pool_taken (codes "pools") config opening_draft
  with_variables ← with_rows variable_taken (codes "variables") config with_pools
  with_rows dag_taken (codes "dags") config with_variables

-- the policy after the access control of each DAG that is listed is taken over, in their order
abbrev pub synced_in : Data → PolicyRows → Result PolicyRows Reason
synced_in config policy = with_rows access_taken (codes "dags") config policy

-- how many entries the audit may have, and the last version of the policy
abbrev pub limits_in : Data → Result Limits Reason
limits_in config = do
  history ← number_in (codes "history_limit") 1 4_294_967_294 1_000_000 config
  versions ← number_in (codes "version_limit") 1 4_294_967_295 4_294_967_295 config
  Ok (record { history = history; versions = versions })

-- who may do what, what there is, how the tries of tasks end that say it, and the limits
pub record ConfigurationRows : Type 0 where
  pub policy : PolicyRows
  pub state : StateRows
  pub scripts : List ScriptRow
  pub limits : Limits

abbrev pub object_or : Data → Result Data Reason
object_or value = if is_some (as_object value) then Ok value else Err Shape

-- ---- what is told before any memory is wanted

-- a policy without users has nobody with the role Admin
abbrev pub some_user : List Data → Result ⊤ Reason
some_user [] = Err Admin
some_user (row ∷ rows) = Ok tt

-- where no role is listed, whether a user is
abbrev pub users_begun : Data → List Data → Result ⊤ Reason
users_begun config [] = optional_list_in (codes "users") config >>= some_user
users_begun config (role ∷ roles) = Ok tt

-- whether a JSON value is an object whose roles are a list, and which lists a role or a user
abbrev pub begun_in : Data → Result ⊤ Reason
begun_in value = do
  config ← object_or value
  roles ← optional_list_in (codes "roles") config
  users_begun config roles

-- ---- all that is told

abbrev pub configuration_of_parts : PolicyRows → Draft → Limits → ConfigurationRows
configuration_of_parts policy draft limits = record { policy = policy; state = draft.state; scripts = draft.scripts; limits = limits }

-- what an object says whose policy is this once the access control of its DAGs is taken over, and whose lists make this draft
abbrev pub configuration_within : Data → PolicyRows → Draft → Result ConfigurationRows Reason
configuration_within config policy draft = do
  limits ← limits_in config
  Ok (configuration_of_parts policy draft limits)

-- what an object says whose roles and users make this policy, and whose further lists make this draft
abbrev pub configuration_with : Data → PolicyRows → Draft → Result ConfigurationRows Reason
configuration_with config policy draft = do
  synced ← synced_in config policy
  configuration_within config synced draft

-- what an object says whose roles and users make this policy
abbrev pub configuration_under : Data → PolicyRows → Result ConfigurationRows Reason
configuration_under config policy = do
  draft ← draft_in config
  configuration_with config policy draft

-- what a JSON value says: it has to be an object
abbrev pub configuration_in : Data → Result ConfigurationRows Reason
configuration_in value = do
  config ← object_or value
  policy ← policy_in config
  configuration_under config policy

-- 16 MiB
abbrev pub longest : ℕ
longest = 16 * 1024 * 1024

-- what the bytes of a configuration say, or why they are refused
abbrev pub configuration_of : List ℕ → Result ConfigurationRows Reason
configuration_of bytes =
    if nat_lt longest (length bytes) then Err Unreadable
    else (ok_or (json_of bytes) Syntax >>= configuration_in)
