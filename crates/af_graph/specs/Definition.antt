-- Which definitions make a DAG (this product's own rule; Airflow 2, "DAGs", refuses duplicate ids and cycles too).
use Rattle.std.specs.Prelude.{ℕ, ◌==◌, nat_lt, nat_le, Bool, false, not, ◌&&◌, List, [], ◌∷◌, length, take, Option, Some, None, is_some, is_none, Result, Ok, Err, if◌then◌else◌}
use Rattle.std.specs.List.{find, list_any, slice_get}
use Rattle.std.specs.Option.{option_map, option_map_or}
use Rattle.af_graph.specs.Rows.{places, is_among}
use Rattle.af_graph.specs.Graph.{place_of, upstream_rows}
use Rattle.af_graph.specs.Order.{order_of}
use Rattle.af_graph.specs.Limits.{most_tasks, most_slots}
use Rattle.af_graph.specs.declared.task_spec.TaskSpec.{TaskSpec}
use Rattle.af_graph.specs.declared.dag_spec.DagSpec.{DagSpec}
use Rattle.af_graph.specs.declared.dag_fault.DagFault.{DagFault}
use Rattle.af_graph.specs.declared.dag_fault.DagFault.TheVariants.{NoTask, TooMany, Duplicate, UnknownUpstream, Cycle, BadSlots}

-- the id of the task at a place
abbrev pub id_at : List TaskSpec → ℕ → List ℕ
id_at tasks place = option_map_or (λ task. task.task_id) (slice_get tasks place) []

-- a test of the task at a place
abbrev pub at_place : List TaskSpec → (TaskSpec → Bool) → ℕ → Bool
at_place tasks test place = option_map_or test (slice_get tasks place) false

-- an earlier task has the id of the task at a place
abbrev pub is_repeated : List TaskSpec → ℕ → Bool
is_repeated tasks place = is_some (place_of (take place tasks) (id_at tasks place))

-- no task has the id
abbrev pub is_nobody : List TaskSpec → List ℕ → Bool
is_nobody tasks id = is_none (place_of tasks id)

-- a task names an upstream task that isn't there
abbrev pub names_nobody : List TaskSpec → TaskSpec → Bool
names_nobody tasks task = list_any (is_nobody tasks) task.upstream

-- the order of the tasks never takes the task at a place
abbrev pub is_never_taken : List TaskSpec → ℕ → Bool
is_never_taken tasks place = not (is_among (order_of (upstream_rows tasks)) place)

-- the slots of a task are outside 1 to the most
abbrev pub has_bad_slots : TaskSpec → Bool
has_bad_slots task = not (nat_le 1 task.pool_slots && nat_le task.pool_slots most_slots)

-- the first task in the order of the definition at whose place the test holds is told
abbrev pub first_task : List TaskSpec → (ℕ → Bool) → (List ℕ → DagFault (List ℕ)) → Option (DagFault (List ℕ))
first_task tasks test fault = option_map (λ place. fault (id_at tasks place)) (find test (places tasks))

-- the first that there is
abbrev pub first_of : {T : Type 0} → List (Option T) → Option T
first_of [] = None
first_of (None ∷ others) = first_of others
first_of (Some fault ∷ others) = Some fault

-- there is no task
abbrev pub no_task : List TaskSpec → Option (DagFault (List ℕ))
no_task tasks = if length tasks == 0 then Some NoTask else None

-- there are more tasks than may be
abbrev pub too_many : List TaskSpec → Option (DagFault (List ℕ))
too_many tasks = if nat_lt most_tasks (length tasks) then Some TooMany else None

abbrev pub duplicate : List TaskSpec → Option (DagFault (List ℕ))
duplicate tasks = first_task tasks (is_repeated tasks) Duplicate

abbrev pub unknown_upstream : List TaskSpec → Option (DagFault (List ℕ))
unknown_upstream tasks = first_task tasks (at_place tasks (names_nobody tasks)) UnknownUpstream

abbrev pub cycle : List TaskSpec → Option (DagFault (List ℕ))
cycle tasks = first_task tasks (is_never_taken tasks) Cycle

abbrev pub bad_slots : List TaskSpec → Option (DagFault (List ℕ))
bad_slots tasks = first_task tasks (at_place tasks has_bad_slots) BadSlots

-- the fault of a definition's tasks, in the order in which faults are told
abbrev pub fault_of : List TaskSpec → Option (DagFault (List ℕ))
fault_of tasks =
    first_of (no_task tasks ∷ too_many tasks ∷ duplicate tasks ∷ unknown_upstream tasks ∷ cycle tasks ∷ bad_slots tasks ∷ [])

-- the definition, unless it has a fault
abbrev pub unless : Option (DagFault (List ℕ)) → DagSpec → Result DagSpec (DagFault (List ℕ))
unless None dag = Ok dag
unless (Some fault) dag = Err fault

-- a definition without a fault is a DAG; else its fault is told
abbrev pub checked : DagSpec → Result DagSpec (DagFault (List ℕ))
checked dag = unless (fault_of dag.tasks) dag
