-- How an executor reports the outcome of a try (Airflow 2, "Tasks": retries, retry_delay). The order of the faults is this
-- product's own rule.
use Rattle.std.specs.Prelude.{ℕ, ◌+◌, ◌*◌, ◌&&◌, ◌==◌, not, Bool, find, nat_le, Option, Some, None, is_none, if◌then◌else◌}
use Rattle.std.specs.Option.{option_map_or}
use Rattle.af_names.specs.Instants.{last_micros}
use Rattle.af_graph.specs.Graph.{same_name}
use Rattle.af_graph.specs.States.{same_state}
use Rattle.af_graph.specs.declared.task_spec.TaskSpec.{TaskSpec}
use Rattle.af_graph.specs.declared.task_state.TaskState.TheVariants as task_state
use Rattle.af_runs.specs.Runs.{with_instance}
use Rattle.af_runs.specs.declared.instance.Instance.{Instance}
use Rattle.af_sched.specs.Placed.{Placed, placed_in}
use Rattle.af_sched.specs.State.{StateRows}
use Rattle.af_sched.specs.declared.claim.Claim.{Claim}
use Rattle.af_sched.specs.declared.outcome.Outcome.{Outcome}
use Rattle.af_sched.specs.declared.outcome.Outcome.TheVariants as outcome
use Rattle.af_sched.specs.declared.report_fault.ReportFault.{ReportFault}
use Rattle.af_sched.specs.declared.report_fault.ReportFault.TheVariants.{NoSuchInstance, NotRunning, WrongTry}

-- whether an instance is the one that a claim names: by the number of its run and the id of its task
abbrev pub is_claimed : Claim → Placed → Bool
is_claimed claim placed = (placed.run.number == claim.run_number) && same_name placed.task.task_id claim.task_id

-- the instance that a claim names
abbrev pub instance_of : StateRows → Claim → Option Placed
instance_of state claim = find (is_claimed claim) (placed_in state.dags state.runs)

-- why a report on this instance is not taken: the first of these faults
abbrev pub fault_at : Claim → Placed → Option ReportFault
fault_at claim placed =
    if not (same_state placed.instance.state task_state.Running) then Some NotRunning
    else (if not (placed.instance.try_number == claim.try_number) then Some WrongTry else None)

-- why a report is not taken
abbrev pub report_fault : StateRows → Claim → Option ReportFault
report_fault state claim = option_map_or (fault_at claim) (instance_of state claim) (Some NoSuchInstance)

-- when an instance that fails at t may be tried again
abbrev pub retry_moment : ℕ → TaskSpec → ℕ
retry_moment t task = t + task.retry_delay * 1_000_000

-- whether an instance that fails at t is tried again: a try is left, and its moment is an instant
abbrev pub is_retried : ℕ → TaskSpec → Instance → Bool
is_retried t task instance = nat_le instance.try_number instance.max_tries && nat_le (retry_moment t task) last_micros

-- an instance that has failed at t
abbrev pub failed_instance : ℕ → TaskSpec → Instance → Instance
failed_instance t task instance =
    if is_retried t task instance
    then record instance { state = task_state.UpForRetry; end_date = Some t; retry_at = Some (retry_moment t task) }
    else record instance { state = task_state.Failed; end_date = Some t }

-- an instance of a task after the report of an outcome at t
abbrev pub reported_instance : ℕ → Outcome → TaskSpec → Instance → Instance
reported_instance t outcome.Success task instance = record instance { state = task_state.Success; end_date = Some t }
reported_instance t outcome.Skipped task instance = record instance { state = task_state.Skipped; end_date = Some t }
reported_instance t outcome.Failed task instance = failed_instance t task instance

-- the state after the report on this instance
abbrev pub reported_at : ℕ → Outcome → StateRows → Placed → StateRows
reported_at t said state placed =
    record state { runs = with_instance state.runs placed.run.number placed.place (reported_instance t said placed.task placed.instance) }

-- the state after a report: one that is not taken leaves it as it was
abbrev pub reported : ℕ → Outcome → StateRows → Claim → StateRows
reported t said state claim =
    if is_none (report_fault state claim) then option_map_or (reported_at t said state) (instance_of state claim) state else state
