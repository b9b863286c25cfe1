-- How heavy the tasks of DAGs are (Airflow 2, "Pools": priority_weight). No public contract cites this file.
use Rattle.std.specs.Prelude.{ℕ, ◌≡◌, ◌<◌, ◌⊎◌, List, ℤ, All, Option, MatchOption}
use Rattle.std.specs.Int.Signed.{◌≤ℤ◌}
use Rattle.af_graph.specs.declared.task_spec.TaskSpec.{TaskSpec}
use Rattle.af_sched.specs.Placed.{Placed}
use Rattle.af_sched.specs.declared.dag_row.DagRow.{DagRow}

-- no task is heavier
abbrev pub NoTaskIsHeavier : ℤ → List TaskSpec → Type 0
NoTaskIsHeavier weight tasks = All (λ task. task.priority_weight ≤ℤ weight) tasks

-- no task of these DAGs is heavier
abbrev pub NoneIsHeavier : ℤ → List DagRow → Type 0
NoneIsHeavier weight dags = All (λ row. NoTaskIsHeavier weight row.dag.tasks) dags

-- there is an instance, of a task at least as heavy
abbrev pub IsAsHeavy : ℤ → Option Placed → Type 0
IsAsHeavy weight first = MatchOption first ⊥ (λ placed. weight ≤ℤ placed.task.priority_weight)

-- it is of a run of a lower number than this, or of that run and at an earlier place
abbrev pub StandsBefore : ℕ → ℕ → Placed → Type 0
StandsBefore number place placed = (placed.run.number < number) ⊎ ((placed.run.number ≡ number) × (placed.place < place))
