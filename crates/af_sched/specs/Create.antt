-- The first phase of a tick: runs are created for points that are due, with catchup for the first of them and without it
-- for the last (Airflow 2, "DAG Runs"). That one tick takes 16 points at most, and that a point whose run can not be added
-- is passed over, is this product's own rule. Backfills make their runs by the same definitions.
use Rattle.std.specs.Prelude.{ℕ, ◌+◌, List, [], ◌∷◌, ◌++◌, Bool, map, fold, codes, Option, None, unwrap_or, is_none, if◌then◌else◌}
use Rattle.std.specs.Option.{option_map_or}
use Rattle.af_names.specs.Isoformat.{isoformat}
use Rattle.af_graph.specs.declared.dag_spec.DagSpec.{DagSpec}
use Rattle.af_graph.specs.Schedules.{is_scheduled}
use Rattle.af_runs.specs.Instances.{new_instances}
use Rattle.af_runs.specs.Runs.{add_fault, queued_run}
use Rattle.af_runs.specs.Texts.{type_text}
use Rattle.af_runs.specs.declared.new_run.NewRun.{NewRun}
use Rattle.af_runs.specs.declared.run_type.RunType.{RunType}
use Rattle.af_runs.specs.declared.run_type.RunType.TheVariants.{Scheduled}
use Rattle.af_sched.specs.Due.{taken_points, moved_cursor, next_after}
use Rattle.af_sched.specs.State.{StateRows}
use Rattle.af_sched.specs.declared.dag_row.DagRow.{DagRow}

-- the id of the run of this type and this date: `scheduled__2024-01-01T00:00:00+00:00`
abbrev pub id_of : RunType → ℕ → List ℕ
id_of kind date = type_text kind ++ codes "__" ++ isoformat date

-- the run of a DAG, of this type, for the interval that begins at a point. The interval ends at the next point; where there is none it
-- ends where it begins
abbrev pub point_run : RunType → DagSpec → (ℕ → Bool) → ℕ → NewRun
point_run kind dag is_point at = record {
  dag_id = dag.dag_id;
  run_id = id_of kind at;
  logical_date = at;
  interval = record { start = at; end = unwrap_or (next_after is_point at) at };
  run_type = kind;
  instances = new_instances dag.tasks;
}

-- the run of a DAG that falls due for the interval that begins at a point
abbrev pub run_for : DagSpec → (ℕ → Bool) → ℕ → NewRun
run_for = point_run Scheduled

-- the state with one more run, unless its id or its date is taken, its DAG is at its limit of runs, or no number is left for it
abbrev pub with_run : StateRows → NewRun → StateRows
with_run state new =
    if is_none (add_fault state.runs state.next_run new.dag_id new.run_id new.logical_date)
    then record state { runs = state.runs ++ queued_run state.next_run new ∷ []; next_run = state.next_run + 1 }
    else state

-- the runs that are due of a DAG with this schedule and cursor
abbrev pub runs_due : ℕ → DagSpec → (ℕ → Bool) → ℕ → List NewRun
runs_due t dag is_point cursor = map (run_for dag is_point) (taken_points dag.catchup is_point cursor t)

-- the runs that are due of a DAG: none while it is paused, or has no schedule or no cursor
abbrev pub runs_of_row : ℕ → DagRow → List NewRun
runs_of_row t row =
    if row.is_paused then []
    else option_map_or (λ schedule. option_map_or (runs_due t row.dag (is_scheduled schedule)) row.cursor []) row.dag.schedule []

-- where a cursor stands after the phase
abbrev pub cursor_due : ℕ → DagSpec → (ℕ → Bool) → ℕ → Option ℕ
cursor_due t dag is_point cursor = moved_cursor is_point (taken_points dag.catchup is_point cursor t) cursor

-- a DAG's row after the phase: its cursor has moved past the points taken, whether their runs were added or not
abbrev pub moved_row : ℕ → DagRow → DagRow
moved_row t row =
    if row.is_paused then row
    else record row { cursor = option_map_or (λ schedule. option_map_or (cursor_due t row.dag (is_scheduled schedule)) row.cursor None) row.dag.schedule row.cursor }

-- the state with the runs that are due of one DAG, in the order of their points
abbrev pub with_runs_of : ℕ → StateRows → DagRow → StateRows
with_runs_of t state row = fold with_run state (runs_of_row t row)

-- the state after the phase: DAGs are taken by id
abbrev pub created : ℕ → StateRows → StateRows
created t state = record (fold (with_runs_of t) state state.dags) { dags = map (moved_row t) state.dags }
