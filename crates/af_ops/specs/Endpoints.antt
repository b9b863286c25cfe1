-- The operations of the API (Airflow 2, "Stable REST API"), with what a request says of them.
use Rattle.std.specs.Prelude.{◌&&◌, ◌||◌, ℕ, List, [], ◌∷◌, Bool, true, false, is_some, Option, Some, None, unwrap_or, Result, Ok, Err}
use Rattle.std.specs.Result.{result_ok}
use Rattle.af_names.specs.Names.{Grammar, account_name_grammar, named, id_grammar, is_tilde, row_name_grammar, run_id_grammar}
use Rattle.af_ops.specs.declared.body_fault.BodyFault.{BodyFault}
use Rattle.af_ops.specs.declared.body_fault.BodyFault.TheVariants.{OutOfMemory}
use Rattle.af_ops.specs.declared.clear.Clear.{Clear}
use Rattle.af_ops.specs.declared.endpoint.Endpoint.{Endpoint}
use Rattle.af_ops.specs.declared.endpoint.Endpoint.TheVariants as endpoint
use Rattle.af_ops.specs.declared.method.Method.{Method}
use Rattle.af_ops.specs.declared.method.Method.TheVariants.{Get, Post, Patch, Delete}
use Rattle.af_ops.specs.declared.op.Op.{Op}
use Rattle.af_ops.specs.declared.op.Op.TheVariants as op
use Rattle.af_ops.specs.declared.path_template.PathTemplate.{PathTemplate}
use Rattle.af_ops.specs.declared.path_template.PathTemplate.TheVariants as template
use Rattle.af_ops.specs.declared.trigger.Trigger.{Trigger}
use Rattle.af_ops.specs.PoolOps as pools
use Rattle.af_ops.specs.VariableOps as variables

abbrev pub endpoint_of : Op → Endpoint
endpoint_of op.Version = endpoint.Version
endpoint_of (op.ListDags asked) = endpoint.ListDags
endpoint_of (op.GetDag dag_id) = endpoint.GetDag
endpoint_of (op.PauseDag dag_id input) = endpoint.PauseDag
endpoint_of (op.ListTasks dag_id) = endpoint.ListTasks
endpoint_of (op.ListRuns dag asked) = endpoint.ListRuns
endpoint_of (op.TriggerRun dag_id input) = endpoint.TriggerRun
endpoint_of (op.GetRun dag_id run_id) = endpoint.GetRun
endpoint_of (op.MarkRun dag_id run_id input) = endpoint.MarkRun
endpoint_of (op.DeleteRun dag_id run_id) = endpoint.DeleteRun
endpoint_of (op.ClearRun dag_id run_id input) = endpoint.ClearRun
endpoint_of (op.ListInstances dag_id run_id asked) = endpoint.ListInstances
endpoint_of (op.GetInstance dag_id run_id task_id) = endpoint.GetInstance
endpoint_of (op.ClearInstances dag_id input) = endpoint.ClearInstances
endpoint_of (op.BackfillDag dag_id input) = endpoint.BackfillDag
endpoint_of (op.Pool it) = pools.endpoint_of it
endpoint_of (op.Variable it) = variables.endpoint_of it

-- the DAG that an operation names, or none
abbrev pub dag_of : Op → Option (List ℕ)
dag_of op.Version = None
dag_of (op.ListDags asked) = None
dag_of (op.GetDag dag_id) = Some dag_id
dag_of (op.PauseDag dag_id input) = Some dag_id
dag_of (op.ListTasks dag_id) = Some dag_id
dag_of (op.ListRuns dag asked) = dag
dag_of (op.TriggerRun dag_id input) = Some dag_id
dag_of (op.GetRun dag_id run_id) = Some dag_id
dag_of (op.MarkRun dag_id run_id input) = Some dag_id
dag_of (op.DeleteRun dag_id run_id) = Some dag_id
dag_of (op.ClearRun dag_id run_id input) = Some dag_id
dag_of (op.ListInstances dag_id run_id asked) = Some dag_id
dag_of (op.GetInstance dag_id run_id task_id) = Some dag_id
dag_of (op.ClearInstances dag_id input) = Some dag_id
dag_of (op.BackfillDag dag_id input) = Some dag_id
dag_of (op.Pool it) = None
dag_of (op.Variable it) = None

-- the run whose instances alone are cleared, or none
abbrev pub cleared_run : Result Clear BodyFault → Option (List ℕ)
cleared_run (Ok asked) = asked.dag_run_id
cleared_run (Err fault) = None

-- the ids of the tasks whose instances alone are cleared
abbrev pub ids_in : Result Clear BodyFault → List (List ℕ)
ids_in (Ok asked) = unwrap_or asked.task_ids []
ids_in (Err fault) = []

-- the ids of tasks that the body of an operation names, in their order
abbrev pub task_ids_of : Op → List (List ℕ)
task_ids_of (op.ClearInstances dag_id input) = ids_in input
task_ids_of _ = []

-- the run that an operation names, or none
abbrev pub run_of : Op → Option (List ℕ)
run_of op.Version = None
run_of (op.ListDags asked) = None
run_of (op.GetDag dag_id) = None
run_of (op.PauseDag dag_id input) = None
run_of (op.ListTasks dag_id) = None
run_of (op.ListRuns dag asked) = None
run_of (op.TriggerRun dag_id input) = None
run_of (op.GetRun dag_id run_id) = Some run_id
run_of (op.MarkRun dag_id run_id input) = Some run_id
run_of (op.DeleteRun dag_id run_id) = Some run_id
run_of (op.ClearRun dag_id run_id input) = Some run_id
run_of (op.ListInstances dag_id run_id asked) = Some run_id
run_of (op.GetInstance dag_id run_id task_id) = Some run_id
run_of (op.ClearInstances dag_id input) = cleared_run input
run_of (op.BackfillDag dag_id input) = None
run_of (op.Pool it) = None
run_of (op.Variable it) = None

-- the task that an operation names, or none
abbrev pub task_of : Op → Option (List ℕ)
task_of op.Version = None
task_of (op.ListDags asked) = None
task_of (op.GetDag dag_id) = None
task_of (op.PauseDag dag_id input) = None
task_of (op.ListTasks dag_id) = None
task_of (op.ListRuns dag asked) = None
task_of (op.TriggerRun dag_id input) = None
task_of (op.GetRun dag_id run_id) = None
task_of (op.MarkRun dag_id run_id input) = None
task_of (op.DeleteRun dag_id run_id) = None
task_of (op.ClearRun dag_id run_id input) = None
task_of (op.ListInstances dag_id run_id asked) = None
task_of (op.GetInstance dag_id run_id task_id) = Some task_id
task_of (op.ClearInstances dag_id input) = None
task_of (op.BackfillDag dag_id input) = None
task_of (op.Pool it) = None
task_of (op.Variable it) = None

-- the name of the pool, or the key of the variable, that an operation is about; no text where there is none
abbrev pub row_name_of : Op → List ℕ
row_name_of (op.Pool it) = pools.name_of it
row_name_of (op.Variable it) = variables.key_of it
row_name_of _ = []

abbrev pub given_in : Result Trigger BodyFault → Option (List ℕ)
given_in (Ok asked) = asked.dag_run_id
given_in (Err fault) = None

-- the id that the run which an operation adds is given, or none
abbrev pub given_id : Op → Option (List ℕ)
given_id op.Version = None
given_id (op.ListDags asked) = None
given_id (op.GetDag dag_id) = None
given_id (op.PauseDag dag_id input) = None
given_id (op.ListTasks dag_id) = None
given_id (op.ListRuns dag asked) = None
given_id (op.TriggerRun dag_id input) = given_in input
given_id (op.GetRun dag_id run_id) = None
given_id (op.MarkRun dag_id run_id input) = None
given_id (op.DeleteRun dag_id run_id) = None
given_id (op.ClearRun dag_id run_id input) = None
given_id (op.ListInstances dag_id run_id asked) = None
given_id (op.GetInstance dag_id run_id task_id) = None
given_id (op.ClearInstances dag_id input) = None
given_id (op.BackfillDag dag_id input) = None
given_id (op.Pool it) = None
given_id (op.Variable it) = None

-- the name of a kind that is the first of some parts
abbrev pub first_in : Grammar → List (List ℕ) → Option (List ℕ)
first_in grammar [] = None
first_in grammar (part ∷ parts) = result_ok (named grammar part)

abbrev pub after_first : List (List ℕ) → List (List ℕ)
after_first [] = []
after_first (part ∷ parts) = parts

-- the DAG's id that is the first part of a path, and the run's that is the second
abbrev pub dag_id_in : List (List ℕ) → Option (List ℕ)
dag_id_in parts = first_in id_grammar parts

abbrev pub run_id_in : List (List ℕ) → Option (List ℕ)
run_id_in parts = first_in run_id_grammar (after_first parts)

-- the task's id that is the third part
abbrev pub task_id_in : List (List ℕ) → Option (List ℕ)
task_id_in parts = first_in id_grammar (after_first (after_first parts))

-- the name of a pool, or the key of a variable, that is the first part
abbrev pub row_name_in : List (List ℕ) → Option (List ℕ)
row_name_in parts = first_in row_name_grammar parts

-- the name of a role, or of a user, that is the first part
abbrev pub account_name_in : List (List ℕ) → Option (List ℕ)
account_name_in parts = first_in account_name_grammar parts

-- two, where both are there
abbrev pub both : {X Y : Type 0} → Option X → Option Y → Option (X × Y)
both (Some x) (Some y) = Some (x, y)
both (Some x) None = None
both None y = None

abbrev pub run_ids_in : List (List ℕ) → Option (List ℕ × List ℕ)
run_ids_in parts = both (dag_id_in parts) (run_id_in parts)

abbrev pub instance_ids_in : List (List ℕ) → Option ((List ℕ × List ℕ) × List ℕ)
instance_ids_in parts = both (run_ids_in parts) (task_id_in parts)

-- whether the first part is `~`, which stands for all DAGs
abbrev pub is_all : List (List ℕ) → Bool
is_all [] = false
is_all (part ∷ parts) = is_tilde part

abbrev pub is_get : Option Method → Bool
is_get None = false
is_get (Some Get) = true
is_get (Some Post) = false
is_get (Some Patch) = false
is_get (Some Delete) = false

-- whether the parts of a path of this form, decoded, are names of their kinds, where it is asked for by this method, or by one that
-- the API has not; `~` stands for all DAGs in the listing of runs alone
abbrev pub are_names : Option Method → PathTemplate → List (List ℕ) → Bool
are_names method template.Version parts = true
are_names method template.Dags parts = true
are_names method template.Dag parts = is_some (dag_id_in parts)
are_names method template.Tasks parts = is_some (dag_id_in parts)
are_names method template.Runs parts = is_some (dag_id_in parts) || (is_get method && is_all parts)
are_names method template.Run parts = is_some (dag_id_in parts) && is_some (run_id_in parts)
are_names method template.RunClear parts = is_some (dag_id_in parts) && is_some (run_id_in parts)
are_names method template.Instances parts = is_some (dag_id_in parts) && is_some (run_id_in parts)
are_names method template.Instance parts = is_some (dag_id_in parts) && (is_some (run_id_in parts) && is_some (task_id_in parts))
are_names method template.Clear parts = is_some (dag_id_in parts)
are_names method template.Pools parts = true
are_names method template.Pool parts = is_some (row_name_in parts)
are_names method template.Variables parts = true
are_names method template.Variable parts = is_some (row_name_in parts)
are_names method template.Entries parts = true
are_names method template.Roles parts = true
are_names method template.Role parts = is_some (account_name_in parts)
are_names method template.Users parts = true
are_names method template.User parts = is_some (account_name_in parts)
are_names method template.Me parts = true
are_names method template.Sync parts = is_some (dag_id_in parts)
are_names method template.Backfills parts = is_some (dag_id_in parts)

-- the same operation, whose body was not read for lack of memory
abbrev pub unread : Op → Op
unread op.Version = op.Version
unread (op.ListDags asked) = op.ListDags asked
unread (op.GetDag dag_id) = op.GetDag dag_id
unread (op.PauseDag dag_id input) = op.PauseDag dag_id (Err OutOfMemory)
unread (op.ListTasks dag_id) = op.ListTasks dag_id
unread (op.ListRuns dag asked) = op.ListRuns dag asked
unread (op.TriggerRun dag_id input) = op.TriggerRun dag_id (Err OutOfMemory)
unread (op.GetRun dag_id run_id) = op.GetRun dag_id run_id
unread (op.MarkRun dag_id run_id input) = op.MarkRun dag_id run_id (Err OutOfMemory)
unread (op.DeleteRun dag_id run_id) = op.DeleteRun dag_id run_id
unread (op.ClearRun dag_id run_id input) = op.ClearRun dag_id run_id (Err OutOfMemory)
unread (op.ListInstances dag_id run_id asked) = op.ListInstances dag_id run_id asked
unread (op.GetInstance dag_id run_id task_id) = op.GetInstance dag_id run_id task_id
unread (op.ClearInstances dag_id input) = op.ClearInstances dag_id (Err OutOfMemory)
unread (op.BackfillDag dag_id input) = op.BackfillDag dag_id (Err OutOfMemory)
unread (op.Pool it) = op.Pool (pools.unread it)
unread (op.Variable it) = op.Variable (variables.unread it)
