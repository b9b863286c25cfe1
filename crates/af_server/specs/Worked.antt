-- What a JSON text says as a configuration, and rows of DAGs as JSON, for worked values.
use Rattle.std.specs.Prelude.{ℕ, pos, List, [], ◌∷◌, codes, Option, None, option_map, Result, true, false}
use Rattle.serde_json.specs.Data.{Data, string, array, object, Items, no_items, item, no_members, member}
use Rattle.serde_json.specs.Read.{read as read_text}
use Rattle.af_graph.specs.declared.rule.Rule.TheVariants.{AllSuccess}
use Rattle.af_graph.specs.declared.task_spec.TaskSpec.{TaskSpec}
use Rattle.af_policy.specs.Drafts.{opening}
use Rattle.af_policy.specs.Rows.{PolicyRows}
use Rattle.af_role.specs.Pairs.{PairRow, on_dag}
use Rattle.af_role.specs.declared.action.Action.TheVariants.{Edit, Read}
use Rattle.af_pool.specs.Pools.{default_name}
use Rattle.af_pool.specs.declared.pool.Pool.{Pool}
use Rattle.af_sched.specs.State.{StateRows}
use Rattle.af_sched.specs.declared.dag_row.DagRow.{DagRow}
use Rattle.af_server.specs.declared.config.limits.Limits.{Limits}
use Rattle.af_server.specs.declared.reason.Reason.{Reason}
use Rattle.af_server.specs.Configurations.{ConfigurationRows, configuration_in}

-- none where it is no JSON
abbrev pub said : List ℕ → Option (Result ConfigurationRows Reason)
said text = option_map configuration_in (read_text text)

abbrev pub items : List Data → Items
items [] = no_items
items (value ∷ values) = item value (items values)

abbrev pub task : Data
task = object (member (codes "task_id") (string (codes "t")) no_members)

-- with one member more
abbrev pub task_with : List ℕ → Data → Data
task_with name value = object (member (codes "task_id") (string (codes "t")) (member name value no_members))

abbrev pub dag_of_tasks : List ℕ → List Data → Data
dag_of_tasks id tasks =
    object (member (codes "dag_id") (string id) (member (codes "tasks") (array (items tasks)) no_members))

abbrev pub dag : List ℕ → Data
dag id = dag_of_tasks id (task ∷ [])

-- with one member more
abbrev pub dag_with : List ℕ → List ℕ → Data → Data
dag_with id name value =
    object (member (codes "dag_id") (string id) (member name value (member (codes "tasks") (array (items (task ∷ []))) no_members)))

abbrev pub dags : List Data → Data
dags rows = object (member (codes "dags") (array (items rows)) no_members)

abbrev pub pools : List Data → Data
pools rows = object (member (codes "pools") (array (items rows)) no_members)

abbrev pub pool : List ℕ → Data → Data
pool name slots = object (member (codes "name") (string name) (member (codes "slots") slots no_members))

abbrev pub variables : List Data → Data
variables rows = object (member (codes "variables") (array (items rows)) no_members)

abbrev pub variable : List ℕ → Data → Data
variable key value = object (member (codes "key") (string key) (member (codes "value") value no_members))

-- with one member
abbrev pub with_limit : List ℕ → Data → Data
with_limit name value = object (member name value no_members)

abbrev pub limits : ℕ → ℕ → Limits
limits history versions = record { history = history; versions = versions }

-- a task of which nothing but its id is said
abbrev pub task_row : TaskSpec
task_row = record {
  task_id = codes "t";
  upstream = [];
  pool = default_name;
  pool_slots = 1;
  priority_weight = pos 1;
  retries = 0;
  retry_delay = 300;
  trigger_rule = AllSuccess;
}

abbrev pub dag_row : List ℕ → DagRow
dag_row id = record {
  dag = record { dag_id = id; tasks = task_row ∷ []; schedule = None; catchup = true; max_active_runs = 16 };
  is_paused = false;
  cursor = None;
}

abbrev pub default_pool : ℕ → Pool
default_pool slots = record { name = default_name; slots = slots }

abbrev pub state_of : List DagRow → List Pool → StateRows
state_of dags pools = record { dags = dags; runs = []; next_run = 1; pools = pools; variables = [] }

-- one user, who is an administrator, beside the default roles, and one DAG
abbrev pub digest : List ℕ
digest =
    140 ∷ 105 ∷ 118 ∷ 229 ∷ 181 ∷ 65 ∷ 4 ∷ 21 ∷ 189 ∷ 233 ∷ 8 ∷ 189 ∷ 77 ∷ 238 ∷ 21 ∷ 223 ∷ 177 ∷ 103 ∷ 169 ∷ 200 ∷ 115 ∷ 252 ∷ 75 ∷ 184 ∷ 168 ∷ 31 ∷ 111 ∷ 42 ∷ 180 ∷ 72 ∷ 169 ∷ 24 ∷ []

abbrev pub configuration : ConfigurationRows
configuration = record {
  policy = record {
    users = record { name = codes "u"; digest = digest; roles = codes "Admin" ∷ [] } ∷ [];
    roles = opening.roles;
  };
  state = state_of (dag_row (codes "a") ∷ []) (default_pool 128 ∷ []);
  scripts = [];
  limits = limits 1_000_000 4_294_967_295;
}

-- the access control of a DAG
abbrev pub access_row : Data → Data
access_row value = object (member (codes "access_control") value (member (codes "dag_id") (string (codes "a")) no_members))

-- one role
abbrev pub access_to : List ℕ → Data → Data
access_to name actions = object (member name actions no_members)

-- two roles, in byte order of their names
abbrev pub access_to_two : List ℕ → Data → List ℕ → Data → Data
access_to_two name actions other others = object (member name actions (member other others no_members))

abbrev pub texts : List Data → Data
texts values = array (items values)

-- two roles with these permissions, and no user
abbrev pub two_roles : List PairRow → List PairRow → PolicyRows
two_roles admins others = record {
  users = [];
  roles = record { name = codes "Admin"; pairs = admins } ∷ record { name = codes "R"; pairs = others } ∷ [];
}

abbrev pub reads : List ℕ → PairRow
reads dag = on_dag Read dag

abbrev pub edits : List ℕ → PairRow
edits dag = on_dag Edit dag
