-- Instances with what their runs and tasks say of them, and the order in which they are queued and claimed (Airflow 2,
-- "Pools" and "Scheduler": priority_weight). What decides between equal weights is this product's own rule.
use Rattle.std.specs.Prelude.{ℕ, ◌≡◌, Bool, true, false, List, map, zip, flat_map, Contains, Option, MatchOption}
use Rattle.std.specs.declared.cmp.Ordering.{Ordering}
use Rattle.std.specs.Ordering.{int_cmp, nat_cmp, ordering_then, is_lt}
use Rattle.std.specs.List.{enumerate_from}
use Rattle.af_graph.specs.declared.task_spec.TaskSpec.{TaskSpec}
use Rattle.af_runs.specs.declared.instance.Instance.{Instance}
use Rattle.af_runs.specs.declared.run.Run.{Run}
use Rattle.af_sched.specs.State.{tasks_of}
use Rattle.af_sched.specs.declared.dag_row.DagRow.{DagRow}

-- an instance of a run, its place there, and the task that stands at that place of the definition
pub record Placed : Type 0 where
  pub run : Run
  pub place : ℕ
  pub task : TaskSpec
  pub instance : Instance

-- the instances of a run of these tasks, in the order of the definition
abbrev pub placed_of : List TaskSpec → Run → List Placed
placed_of tasks run =
    map (λ row. record { run = run; place = row.0; task = row.1.0; instance = row.1.1 }) (enumerate_from 0 (zip tasks run.instances))

-- the instances of all these runs
abbrev pub placed_in : List DagRow → List Run → List Placed
placed_in dags runs = flat_map (λ run. placed_of (tasks_of dags run.dag_id) run) runs

-- how one instance stands to another: by falling weight, then by run number, then by place
abbrev pub placed_cmp : Placed → Placed → Ordering
placed_cmp one other =
    ordering_then (int_cmp other.task.priority_weight one.task.priority_weight)
    (ordering_then (nat_cmp one.run.number other.run.number) (nat_cmp one.place other.place))

-- whether one instance comes before another
abbrev pub comes_before : Placed → Placed → Bool
comes_before one other = is_lt (placed_cmp one other)

-- of the instances that pass the test it is the first in that order
pub record IsFirst (test : Placed → Bool) (all : List Placed) (first : Placed) : Type 0 where
  pub member : Contains all first
  pub passes : test first ≡ true
  pub before_others : (other : Placed) → Contains all other → test other ≡ true → comes_before other first ≡ false

-- none of the instances passes the test
abbrev pub NonePasses : (Placed → Bool) → List Placed → Type 0
NonePasses test all = (other : Placed) → Contains all other → test other ≡ false

-- of the instances that pass the test the first in the order, or none where none passes
abbrev pub IsFirstOf : (Placed → Bool) → List Placed → Option Placed → Type 0
IsFirstOf test all first = MatchOption first (NonePasses test all) (IsFirst test all)
