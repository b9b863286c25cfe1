-- What a permitted backfill of a range of dates does. Which runs it makes is in `Backfills` of the scheduler's crate. That a range has at most 100
-- points, those that are taken too, is this product's own rule.
use Rattle.std.specs.Prelude.{ℕ, ◌&&◌, List, Bool, drop, filter, length, map, nat_le, nat_lt, Option, Some, None, ok_or, Result, Ok, Err, codes, if◌then◌else◌}
use Rattle.serde_json.specs.Data.{Data}
use Rattle.serde_json.specs.Written.{compact_text}
use Rattle.af_graph.specs.declared.dag_spec.DagSpec.{DagSpec}
use Rattle.af_graph.specs.Schedules.{is_scheduled}
use Rattle.af_runs.specs.Runs.{has_room}
use Rattle.af_runs.specs.declared.new_run.NewRun.{NewRun}
use Rattle.af_runs.specs.declared.run.Run.{Run}
use Rattle.af_sched.specs.Backfills.{backfill_runs, backfilled, is_free}
use Rattle.af_sched.specs.State.{StateRows}
use Rattle.af_base.specs.Readings.{◌>>=◌}
use Rattle.af_ops.specs.Fields.{listing_of}
use Rattle.af_ops.specs.Replies.{run_data}
use Rattle.af_ops.specs.declared.answer.OpFault.{OpFault}
use Rattle.af_ops.specs.declared.answer.OpFault.TheVariants as fault
use Rattle.af_ops.specs.declared.backfill.Backfill.{Backfill}
use Rattle.af_ops.specs.declared.body_fault.BodyFault.{BodyFault}
use Rattle.af_ops.specs.EffectParts.{Effect, dag_or, input_or}

-- the most points of a range
abbrev pub most_points : ℕ
most_points = 100

-- whether these runs are at most 100, and the DAG has room for those of them that are free
abbrev pub may_make : StateRows → List ℕ → List NewRun → Bool
may_make state dag_id news =
    nat_le (length news) most_points && has_room state.runs state.next_run dag_id (length (filter (is_free state) news))

-- how many runs of a range are free; none where the range has too many points
abbrev pub count_of : StateRows → DagSpec → (ℕ → Bool) → ℕ → ℕ → Option ℕ
count_of state dag is_point first last =
    if nat_le (length (backfill_runs dag is_point first last)) most_points
    then Some (length (filter (is_free state) (backfill_runs dag is_point first last))) else None

-- these runs, unless there are too many of them
abbrev pub unless_too_many : StateRows → List ℕ → List NewRun → Result (List NewRun) OpFault
unless_too_many state dag_id news = if may_make state dag_id news then Ok news else Err fault.TooMany

-- the runs of a range of a DAG that is there and has a schedule, if they may be made
abbrev pub range_or : StateRows → List ℕ → Backfill → Result (List NewRun) OpFault
range_or state dag_id asked = do
  row ← dag_or state dag_id
  schedule ← ok_or row.dag.schedule fault.NoSchedule
  unless_too_many state row.dag.dag_id (backfill_runs row.dag (is_scheduled schedule) asked.start_date asked.end_date)

-- the runs that a later state has after those of an earlier one
abbrev pub runs_since : StateRows → StateRows → List Run
runs_since state next = drop (length state.runs) next.runs

-- all of these runs: there are no pages of new runs
abbrev pub new_runs_data : List Run → Data
new_runs_data runs = listing_of (codes "dag_runs") (map run_data runs) (length runs)

-- the next state, whose new runs are told as they stand in it; where there is no new run, nothing changes
abbrev pub backfilling : StateRows → StateRows → Effect
backfilling state next = record {
  reply = Some (compact_text (new_runs_data (runs_since state next)));
  next = if nat_lt (length state.runs) (length next.runs) then Some next else None;
}

-- the runs of a range of dates of a DAG
abbrev pub backfilled_dag : StateRows → List ℕ → Result Backfill BodyFault → Result Effect OpFault
backfilled_dag state dag_id input = do
  asked ← input_or input
  news ← range_or state dag_id asked
  Ok (backfilling state (backfilled state news))
