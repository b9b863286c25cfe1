-- The state of a scheduler: plain lists of rows (this product's own rule).
use Rattle.std.specs.Prelude.{ℕ, ◌≡◌, ◌<◌, ◌≤◌, ◌==◌, List, [], ◌∷◌, ◌++◌, Bool, false, not, All, length, map, filter, find, nat_le, Option, Some, None, Ok, option_map, if◌then◌else◌}
use Rattle.std.specs.List.{list_all, list_any}
use Rattle.std.specs.Option.{option_map_or}
use Rattle.std.specs.List.Sorted.{IsStrictlySortedBy, IsPartitionPoint}
use Rattle.std.specs.Ordering.{nat_cmp}
use Rattle.std.specs.declared.cmp.Ordering.TheVariants.{Less, Greater}
use Rattle.std.specs.Cmp.Lexicographic.{slice_cmp}
use Rattle.af_graph.specs.Definition.{checked, fault_of}
use Rattle.af_graph.specs.Graph.{same_name}
use Rattle.af_graph.specs.declared.task_spec.TaskSpec.{TaskSpec}
use Rattle.af_graph.specs.declared.schedule.Points.{Points}
use Rattle.af_graph.specs.declared.schedule.Points.TheVariants.{Preset, Seconds}
use Rattle.af_pool.specs.Pools.{comes_before, has_pool, pools_of}
use Rattle.af_pool.specs.declared.pool.Pool.{Pool}
use Rattle.af_runs.specs.declared.run.Run.{Run}
use Rattle.af_sched.specs.declared.add_dag_fault.AddDagFault.{AddDagFault}
use Rattle.af_sched.specs.declared.add_dag_fault.AddDagFault.TheVariants.{NoActiveRuns, NoStep, NoSuchPool, Exists, Full}
use Rattle.af_sched.specs.declared.dag_row.DagRow.{DagRow}
use Rattle.af_vars.specs.declared.variable.Variable.{Variable}

-- the DAGs by id, the runs by number with their instances, the number that the next run gets, the pools by name, and the
-- variables by key
pub record StateRows : Type 0 where
  pub dags : List DagRow
  pub runs : List Run
  pub next_run : ℕ
  pub pools : List Pool
  pub variables : List Variable

-- the rows, and for how many more runs, pools and variables memory is reserved
pub record StateWithRoom : Type 0 where
  pub rows : StateRows
  pub spare_runs : ℕ
  pub spare_pools : ℕ
  pub spare_variables : ℕ

-- the most DAGs that there are
abbrev pub most_dags : ℕ
most_dags = 1_024

-- the DAGs are in byte order of their ids, and no two have one id
abbrev pub AreInOrder : List DagRow → Type 0
AreInOrder dags = IsStrictlySortedBy (slice_cmp nat_cmp) (map (λ row. row.dag.dag_id) dags)

-- whether the row is that of the DAG of this id
abbrev pub is_of_id : List ℕ → DagRow → Bool
is_of_id dag_id row = same_name row.dag.dag_id dag_id

-- the DAG of this id
abbrev pub dag_of : List DagRow → List ℕ → Option DagRow
dag_of dags dag_id = find (is_of_id dag_id) dags

-- whether the DAG of this id is there and not paused
abbrev pub is_unpaused : List DagRow → List ℕ → Bool
is_unpaused dags dag_id = option_map_or (λ row. not row.is_paused) (dag_of dags dag_id) false

-- how many runs of the DAG of this id may be running at once
abbrev pub most_running : List DagRow → List ℕ → ℕ
most_running dags dag_id = option_map_or (λ row. row.dag.max_active_runs) (dag_of dags dag_id) 0

-- the tasks of the DAG of this id, in the order of the definition
abbrev pub tasks_of : List DagRow → List ℕ → List TaskSpec
tasks_of dags dag_id = option_map_or (λ row. row.dag.tasks) (dag_of dags dag_id) []

-- the run's DAG is there, and the run has one instance for each of its tasks
abbrev pub IsWhole : List DagRow → Run → Type 0
IsWhole dags run = option_map (λ row. length row.dag.tasks) (dag_of dags run.dag_id) ≡ Some (length run.instances)

-- what holds of the rows at all times
pub record AreRows (dags : List DagRow) (runs : List Run) : Type 0 where
  pub in_order : AreInOrder dags
  pub few : length dags ≤ most_dags
  -- no definition has a fault
  pub sound : All (λ row. fault_of row.dag.tasks ≡ None) dags
  pub whole : All (IsWhole dags) runs

-- whether there is a DAG of this id
abbrev pub has_dag : List DagRow → List ℕ → Bool
has_dag dags dag_id = list_any (is_of_id dag_id) dags

-- whether a schedule has no step: it is of 0 seconds
abbrev pub has_no_step : Points → Bool
has_no_step (Seconds seconds) = seconds == 0
has_no_step (Preset preset) = false

-- the pools that the tasks of a DAG's row name
abbrev pub pools_of_row : DagRow → List (List ℕ)
pools_of_row row = pools_of row.dag

-- whether there is a pool of the name that each of these tasks gives
abbrev pub have_pools : List Pool → List TaskSpec → Bool
have_pools pools tasks = list_all (λ task. has_pool pools task.pool) tasks

-- why a DAG's row is not added, memory aside: the first of these faults
abbrev pub dag_fault : StateRows → DagRow → Option AddDagFault
dag_fault state row =
    if row.dag.max_active_runs == 0 then Some NoActiveRuns
    else (if option_map_or (λ schedule. has_no_step schedule.points) row.dag.schedule false then Some NoStep
    else (if not (have_pools state.pools row.dag.tasks) then Some NoSuchPool
    else (if has_dag state.dags row.dag.dag_id then Some Exists
    else (if nat_le most_dags (length state.dags) then Some Full else None))))

-- the DAGs with one more, in its place by id
abbrev pub with_dag : List DagRow → DagRow → List DagRow
with_dag dags row =
    filter (λ other. comes_before other.dag.dag_id row.dag.dag_id) dags
    ++ row ∷ filter (λ other. comes_before row.dag.dag_id other.dag.dag_id) dags

-- the DAGs, that of this id paused or not; without such a DAG they are the same
abbrev pub with_paused : List DagRow → List ℕ → Bool → List DagRow
with_paused dags dag_id is_paused = map (λ row. if is_of_id dag_id row then record row { is_paused = is_paused } else row) dags

-- no row is that of the DAG of this id; those of lower ids stand before the place, and those of higher ones from it on
pub record FitsAt (dags : List DagRow) (dag_id : List ℕ) (place : ℕ) : Type 0 where
  pub within : place ≤ length dags
  pub absent : has_dag dags dag_id ≡ false
  pub parted : IsPartitionPoint (λ row. slice_cmp nat_cmp row.dag.dag_id dag_id ≡ Less) (λ row. slice_cmp nat_cmp row.dag.dag_id dag_id ≡ Greater) dags place

-- a DAG's row may be added, and goes to this place
pub record CanAdd (state : StateRows) (row : DagRow) (place : ℕ) : Type 0 where
  pub no_fault : dag_fault state row ≡ None
  pub sound : checked row.dag ≡ Ok row.dag
  pub few : length state.dags < most_dags
  pub fits : FitsAt state.dags row.dag.dag_id place
