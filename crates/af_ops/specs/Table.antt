-- The table of operations (Airflow 2, "Stable REST API" and "Access Control": the permissions of each endpoint): for each
-- operation its method, its path, and what it requires of its user, in the order in which it is tested.
use Rattle.std.specs.Prelude.{ℕ, List, [], ◌∷◌, ◌++◌, Bool, true, false, ◌&&◌, Option, is_some, nat_eq, codes}
use Rattle.std.specs.List.{find}
use Rattle.std.specs.Ordering.{on}
use Rattle.af_role.specs.declared.action.Action.{Action}
use Rattle.af_role.specs.declared.action.Action.TheVariants.{Create, Read, Edit}
use Rattle.af_role.specs.declared.action.Action.TheVariants as action
use Rattle.af_role.specs.declared.resource.ResourceKind.{ResourceKind}
use Rattle.af_role.specs.declared.resource.ResourceKind.TheVariants.{Dags, DagRuns, TaskInstances, Pools, Variables, AuditLogs, Roles, Users}
use Rattle.af_role.specs.declared.need.Need.{Need}
use Rattle.af_ops.specs.declared.method.Method.{Method}
use Rattle.af_ops.specs.declared.method.Method.TheVariants.{Get, Post, Patch, Delete}
use Rattle.af_ops.specs.declared.methods.Methods.{Methods}
use Rattle.af_ops.specs.declared.path_template.PathTemplate.{PathTemplate}
use Rattle.af_ops.specs.declared.path_template.PathTemplate.TheVariants as template
use Rattle.af_ops.specs.declared.endpoint.Endpoint.{Endpoint}
use Rattle.af_ops.specs.declared.endpoint.Endpoint.TheVariants as endpoint
use Rattle.af_ops.specs.Methods.{same_method}

-- ---- paths

-- what stands between two slashes of a path: this text, or any text that is not empty, a part with this name
pub data Segment : Type 0 where
  Text : (text : List ℕ) → Segment
  Part : (name : List ℕ) → Segment

abbrev pub api : List Segment → List Segment
api rest = Text (codes "api") ∷ Text (codes "v1") ∷ rest

-- beside the API's paths: what is this product's own
abbrev pub own : List Segment → List Segment
own rest = Text (codes "own") ∷ rest

-- below a DAG, and below one of its runs
abbrev pub of_dag : List Segment → List Segment
of_dag rest = api (Text (codes "dags") ∷ Part (codes "dag_id") ∷ rest)

abbrev pub of_run : List Segment → List Segment
of_run rest = of_dag (Text (codes "dagRuns") ∷ Part (codes "dag_run_id") ∷ rest)

abbrev pub segments_of : PathTemplate → List Segment
segments_of template.Version = api (Text (codes "version") ∷ [])
segments_of template.Dags = api (Text (codes "dags") ∷ [])
segments_of template.Dag = of_dag []
segments_of template.Tasks = of_dag (Text (codes "tasks") ∷ [])
segments_of template.Runs = of_dag (Text (codes "dagRuns") ∷ [])
segments_of template.Run = of_run []
segments_of template.RunClear = of_run (Text (codes "clear") ∷ [])
segments_of template.Instances = of_run (Text (codes "taskInstances") ∷ [])
segments_of template.Instance = of_run (Text (codes "taskInstances") ∷ Part (codes "task_id") ∷ [])
segments_of template.Clear = of_dag (Text (codes "clearTaskInstances") ∷ [])
segments_of template.Pools = api (Text (codes "pools") ∷ [])
segments_of template.Pool = api (Text (codes "pools") ∷ Part (codes "pool_name") ∷ [])
segments_of template.Variables = api (Text (codes "variables") ∷ [])
segments_of template.Variable = api (Text (codes "variables") ∷ Part (codes "variable_key") ∷ [])
segments_of template.Entries = api (Text (codes "eventLogs") ∷ [])
segments_of template.Roles = api (Text (codes "roles") ∷ [])
segments_of template.Role = api (Text (codes "roles") ∷ Part (codes "role_name") ∷ [])
segments_of template.Users = api (Text (codes "users") ∷ [])
segments_of template.User = api (Text (codes "users") ∷ Part (codes "username") ∷ [])
segments_of template.Me = own (Text (codes "me") ∷ [])
segments_of template.Sync = own (Text (codes "dags") ∷ Part (codes "dag_id") ∷ Text (codes "sync") ∷ [])
segments_of template.Backfills = own (Text (codes "dags") ∷ Part (codes "dag_id") ∷ Text (codes "backfills") ∷ [])

-- how a path is spelled, with its parts in braces
abbrev pub spelled : List Segment → List ℕ
spelled [] = []
spelled (Text text ∷ rest) = 47 ∷ (text ++ spelled rest)
spelled (Part name ∷ rest) = 47 ∷ 123 ∷ (name ++ 125 ∷ spelled rest)

abbrev pub templates : List PathTemplate
templates = template.Version ∷ template.Dags ∷ template.Dag ∷ template.Tasks ∷ template.Runs ∷ template.Run ∷ template.RunClear ∷ template.Instances ∷ template.Instance ∷ template.Clear ∷ template.Pools ∷ template.Pool ∷ template.Variables ∷ template.Variable ∷ template.Entries ∷ template.Roles ∷ template.Role ∷ template.Users ∷ template.User ∷ template.Me ∷ template.Sync ∷ template.Backfills ∷ []

abbrev pub template_rank : PathTemplate → ℕ
template_rank template.Version = 0
template_rank template.Dags = 1
template_rank template.Dag = 2
template_rank template.Tasks = 3
template_rank template.Runs = 4
template_rank template.Run = 5
template_rank template.RunClear = 6
template_rank template.Instances = 7
template_rank template.Instance = 8
template_rank template.Clear = 9
template_rank template.Pools = 10
template_rank template.Pool = 11
template_rank template.Variables = 12
template_rank template.Variable = 13
template_rank template.Entries = 14
template_rank template.Roles = 15
template_rank template.Role = 16
template_rank template.Users = 17
template_rank template.User = 18
template_rank template.Me = 19
template_rank template.Sync = 20
template_rank template.Backfills = 21

abbrev pub same_template : PathTemplate → PathTemplate → Bool
same_template = on template_rank nat_eq

-- ---- requirements

-- an action on `DAGs` at the DAG that the path names
abbrev pub at_dag : Action → Need
at_dag action = record { action = action; kind = Dags; at_dag = true }

-- an action on `DAGs`, or on at least one DAG that is there
abbrev pub at_some_dag : Action → Need
at_some_dag action = record { action = action; kind = Dags; at_dag = false }

-- an action on `DAG Runs` at the DAG that the path names
abbrev pub at_runs : Action → Need
at_runs action = record { action = action; kind = DagRuns; at_dag = true }

-- an action on the resources of a kind
abbrev pub on_all : Action → ResourceKind → Need
on_all action kind = record { action = action; kind = kind; at_dag = false }

-- ---- the table

-- an open operation asks for no token and is decided under no policy
pub record RouteRow : Type 0 where
  pub method : Method
  pub template : PathTemplate
  pub needs : List Need
  pub is_open : Bool

abbrev pub opened : Method → PathTemplate → RouteRow
opened method template = record { method = method; template = template; needs = []; is_open = true }

abbrev pub needing : Method → PathTemplate → List Need → RouteRow
needing method template needs = record { method = method; template = template; needs = needs; is_open = false }

abbrev pub route_of : Endpoint → RouteRow
route_of endpoint.Version = opened Get template.Version
route_of endpoint.ListDags = needing Get template.Dags (at_some_dag Read ∷ [])
route_of endpoint.GetDag = needing Get template.Dag (at_dag Read ∷ [])
route_of endpoint.PauseDag = needing Patch template.Dag (at_dag Edit ∷ [])
route_of endpoint.ListTasks = needing Get template.Tasks (at_dag Read ∷ on_all Read TaskInstances ∷ [])
route_of endpoint.ListRuns = needing Get template.Runs (at_dag Read ∷ at_runs Read ∷ [])
route_of endpoint.TriggerRun = needing Post template.Runs (at_dag Edit ∷ at_runs Create ∷ [])
route_of endpoint.GetRun = needing Get template.Run (at_dag Read ∷ at_runs Read ∷ [])
route_of endpoint.MarkRun = needing Patch template.Run (at_dag Edit ∷ at_runs Edit ∷ [])
route_of endpoint.DeleteRun = needing Delete template.Run (at_dag Edit ∷ at_runs action.Delete ∷ [])
route_of endpoint.ClearRun = needing Post template.RunClear (at_dag Edit ∷ at_runs Edit ∷ [])
route_of endpoint.ListInstances = needing Get template.Instances (at_dag Read ∷ at_runs Read ∷ on_all Read TaskInstances ∷ [])
route_of endpoint.GetInstance = needing Get template.Instance (at_dag Read ∷ at_runs Read ∷ on_all Read TaskInstances ∷ [])
route_of endpoint.ClearInstances = needing Post template.Clear (at_dag Edit ∷ at_runs Read ∷ on_all Edit TaskInstances ∷ [])
route_of endpoint.ListPools = needing Get template.Pools (on_all Read Pools ∷ [])
route_of endpoint.AddPool = needing Post template.Pools (on_all Create Pools ∷ [])
route_of endpoint.GetPool = needing Get template.Pool (on_all Read Pools ∷ [])
route_of endpoint.ChangePool = needing Patch template.Pool (on_all Edit Pools ∷ [])
route_of endpoint.DeletePool = needing Delete template.Pool (on_all action.Delete Pools ∷ [])
route_of endpoint.ListVariables = needing Get template.Variables (on_all Read Variables ∷ [])
route_of endpoint.AddVariable = needing Post template.Variables (on_all Create Variables ∷ [])
route_of endpoint.GetVariable = needing Get template.Variable (on_all Read Variables ∷ [])
route_of endpoint.ChangeVariable = needing Patch template.Variable (on_all Edit Variables ∷ [])
route_of endpoint.DeleteVariable = needing Delete template.Variable (on_all action.Delete Variables ∷ [])
route_of endpoint.ListEntries = needing Get template.Entries (on_all Read AuditLogs ∷ [])
route_of endpoint.ListRoles = needing Get template.Roles (on_all Read Roles ∷ [])
route_of endpoint.AddRole = needing Post template.Roles (on_all Create Roles ∷ [])
route_of endpoint.GetRole = needing Get template.Role (on_all Read Roles ∷ [])
route_of endpoint.ChangeRole = needing Patch template.Role (on_all Edit Roles ∷ [])
route_of endpoint.DeleteRole = needing Delete template.Role (on_all action.Delete Roles ∷ [])
route_of endpoint.ListUsers = needing Get template.Users (on_all Read Users ∷ [])
route_of endpoint.AddUser = needing Post template.Users (on_all Create Users ∷ [])
route_of endpoint.GetUser = needing Get template.User (on_all Read Users ∷ [])
route_of endpoint.ChangeUser = needing Patch template.User (on_all Edit Users ∷ [])
route_of endpoint.DeleteUser = needing Delete template.User (on_all action.Delete Users ∷ [])
route_of endpoint.GetMe = needing Get template.Me []
route_of endpoint.SyncDag = needing Post template.Sync (on_all Edit Roles ∷ [])
route_of endpoint.BackfillDag = needing Post template.Backfills (at_dag Edit ∷ at_runs Create ∷ [])

abbrev pub endpoints : List Endpoint
endpoints = endpoint.Version ∷ endpoint.ListDags ∷ endpoint.GetDag ∷ endpoint.PauseDag ∷ endpoint.ListTasks ∷ endpoint.ListRuns ∷ endpoint.TriggerRun ∷ endpoint.GetRun ∷ endpoint.MarkRun ∷ endpoint.DeleteRun ∷ endpoint.ClearRun ∷ endpoint.ListInstances ∷ endpoint.GetInstance ∷ endpoint.ClearInstances ∷ endpoint.ListPools ∷ endpoint.AddPool ∷ endpoint.GetPool ∷ endpoint.ChangePool ∷ endpoint.DeletePool ∷ endpoint.ListVariables ∷ endpoint.AddVariable ∷ endpoint.GetVariable ∷ endpoint.ChangeVariable ∷ endpoint.DeleteVariable ∷ endpoint.ListEntries ∷ endpoint.ListRoles ∷ endpoint.AddRole ∷ endpoint.GetRole ∷ endpoint.ChangeRole ∷ endpoint.DeleteRole ∷ endpoint.ListUsers ∷ endpoint.AddUser ∷ endpoint.GetUser ∷ endpoint.ChangeUser ∷ endpoint.DeleteUser ∷ endpoint.GetMe ∷ endpoint.SyncDag ∷ endpoint.BackfillDag ∷ []

-- ---- what is read off it

abbrev pub needs_of : Endpoint → List Need
needs_of it = (route_of it).needs

abbrev pub is_open : Endpoint → Bool
is_open it = (route_of it).is_open

-- whether an operation only reads: it is asked for by GET
abbrev pub reads_only : Endpoint → Bool
reads_only it = same_method (route_of it).method Get

-- whether a row of the table has this method and this path
abbrev pub is_route : Method → PathTemplate → Endpoint → Bool
is_route method template it = same_method (route_of it).method method && same_template (route_of it).template template

-- the operation that a method names at a path
abbrev pub endpoint_at : Method → PathTemplate → Option Endpoint
endpoint_at method template = find (is_route method template) endpoints

abbrev pub has_method : PathTemplate → Method → Bool
has_method template method = is_some (endpoint_at method template)

-- the methods that a path has
abbrev pub methods_at : PathTemplate → Methods
methods_at template = record {
  get = has_method template Get;
  post = has_method template Post;
  patch = has_method template Patch;
  delete = has_method template Delete;
}
