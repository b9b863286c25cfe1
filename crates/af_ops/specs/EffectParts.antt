-- What effects are made of: a reply and a state after it, and the faults of parameters and of bodies, which come first.
use Rattle.std.specs.Prelude.{ℕ, List, [], Option, Some, None, ok_or, Result, Ok, Err}
use Rattle.std.specs.List.{slice_get}
use Rattle.std.specs.Option.{option_map_or}
use Rattle.serde_json.specs.Data.{Data}
use Rattle.serde_json.specs.Written.{compact_text}
use Rattle.af_graph.specs.declared.task_spec.TaskSpec.{TaskSpec}
use Rattle.af_listing.specs.Windows.{Cut}
use Rattle.af_policy.specs.declared.bad_input.Parameter.{Parameter}
use Rattle.af_runs.specs.Runs.{run_of}
use Rattle.af_runs.specs.declared.run.Run.{Run}
use Rattle.af_sched.specs.State.{StateRows, dag_of}
use Rattle.af_sched.specs.declared.dag_row.DagRow.{DagRow}
use Rattle.af_ops.specs.declared.answer.OpFault.{OpFault}
use Rattle.af_ops.specs.declared.answer.OpFault.TheVariants as fault
use Rattle.af_ops.specs.declared.body_fault.BodyFault.{BodyFault}
use Rattle.af_ops.specs.declared.body_fault.BodyFault.TheVariants as input

-- the text of the reply, or none where there is nothing to tell; and the state after the operation, or none where that is the
-- state before it
pub record Effect : Type 0 where
  pub reply : Option (List ℕ)
  pub next : Option StateRows

-- the state stays
abbrev pub kept : Data → Effect
kept reply = record { reply = Some (compact_text reply); next = None }

-- the state is another one, and a row is told as it then stands
abbrev pub changed_to : StateRows → Data → Effect
changed_to next reply = record { reply = Some (compact_text reply); next = Some next }

-- the state is another one, and nothing is told
abbrev pub left_with : StateRows → Effect
left_with next = record { reply = None; next = Some next }

abbrev pub input_fault : BodyFault → OpFault
input_fault input.BadBody = fault.BadBody
input_fault (input.BadMember it) = fault.BadMember it
input_fault input.OutOfMemory = fault.OutOfMemory

-- what was read of the body
abbrev pub input_or : {X : Type 0} → Result X BodyFault → Result X OpFault
input_or (Ok read) = Ok read
input_or (Err why) = Err (input_fault why)

-- the rows that a listing is asked for
abbrev pub window_or : Result Cut Parameter → Result Cut OpFault
window_or (Ok window) = Ok window
window_or (Err parameter) = Err (fault.BadParameter parameter)

-- the DAG of an id
abbrev pub dag_or : StateRows → List ℕ → Result DagRow OpFault
dag_or state dag_id = ok_or (dag_of state.dags dag_id) fault.NoSuchDag

-- the run of two ids
abbrev pub run_or : StateRows → List ℕ → List ℕ → Result Run OpFault
run_or state dag_id run_id = ok_or (run_of state.runs dag_id run_id) fault.NoSuchRun

-- the id of the task at a place
abbrev pub id_at : List TaskSpec → ℕ → List ℕ
id_at tasks place = option_map_or (λ task. task.task_id) (slice_get tasks place) []
