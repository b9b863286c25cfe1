-- The third phase of a tick: what becomes of instances that wait for other tasks or for their next try (Airflow 2,
-- "DAGs": trigger rules; "Tasks": up_for_retry). The table of the rules is this product's own.
use Rattle.std.specs.Prelude.{ℕ, ◌≡◌, ◌<◌, ◌&&◌, List, map, length, slice_get, slice_index_or, nat_le, Bool, false, Some, None, MatchBool, if◌then◌else◌}
use Rattle.std.specs.List.{AllZip}
use Rattle.std.specs.Option.{option_map_or}
use Rattle.af_graph.specs.Graph.{upstream_of}
use Rattle.af_graph.specs.TriggerRules.{verdict_of}
use Rattle.af_graph.specs.declared.rule.Rule.{Rule}
use Rattle.af_graph.specs.declared.rule.Rule.TheVariants.{AllSuccess}
use Rattle.af_graph.specs.declared.task_spec.TaskSpec.{TaskSpec}
use Rattle.af_graph.specs.declared.task_state.TaskState.{TaskState}
use Rattle.af_graph.specs.declared.task_state.TaskState.TheVariants as task_state
use Rattle.af_graph.specs.declared.verdict.Verdict.{Verdict}
use Rattle.af_graph.specs.declared.verdict.Verdict.TheVariants as verdict
use Rattle.af_runs.specs.declared.instance.Instance.{Instance}
use Rattle.af_runs.specs.declared.run.Run.{Run}
use Rattle.af_sched.specs.Start.{is_running}
use Rattle.af_sched.specs.State.{StateRows, is_unpaused, tasks_of}
use Rattle.af_sched.specs.declared.dag_row.DagRow.{DagRow}

-- the state of the instance at a place
abbrev pub state_at : List Instance → ℕ → TaskState
state_at instances place = option_map_or (λ instance. instance.state) (slice_get instances place) task_state.NoStatus

-- the trigger rule of the task at a place
abbrev pub rule_at : List TaskSpec → ℕ → Rule
rule_at tasks place = option_map_or (λ task. task.trigger_rule) (slice_get tasks place) AllSuccess

-- what the rule of the task at a place decides on the states that these instances have at the tasks upstream of it
abbrev pub verdict_at : List TaskSpec → List Instance → ℕ → Verdict
verdict_at tasks instances place = verdict_of (rule_at tasks place) (map (state_at instances) (upstream_of tasks place))

-- an instance without a state, once its rule has decided at t
abbrev pub decided_instance : ℕ → Verdict → Instance → Instance
decided_instance t verdict.Ready instance = record instance { state = task_state.Scheduled }
decided_instance t verdict.UpstreamFailed instance = record instance { state = task_state.UpstreamFailed; end_date = Some t }
decided_instance t verdict.Skipped instance = record instance { state = task_state.Skipped; end_date = Some t }
decided_instance t verdict.Wait instance = instance

-- whether the moment of the next try has come at t
abbrev pub may_retry : ℕ → Instance → Bool
may_retry t instance = option_map_or (λ moment. nat_le moment t) instance.retry_at false

-- an instance that waits for its next try, at t
abbrev pub retried_instance : ℕ → Instance → Instance
retried_instance t instance = if may_retry t instance then record instance { state = task_state.Scheduled; retry_at = None } else instance

-- what an instance in this state becomes at t, by what its rule decides
abbrev pub settled_in : TaskState → ℕ → Verdict → Instance → Instance
settled_in task_state.NoStatus t said instance = decided_instance t said instance
settled_in task_state.UpForRetry t said instance = retried_instance t instance
settled_in _ t said instance = instance

-- what an instance becomes at t: without a state, what its rule has decided; up for retry, what its moment says; in any
-- other state it stays as it is
abbrev pub settled_instance : ℕ → Verdict → Instance → Instance
settled_instance t said instance = settled_in instance.state t said instance

-- the instances of a run of these tasks before and after: each is settled, by what its rule decides on the states that
-- the tasks upstream of it have afterwards
pub record SettlesInstances (t : ℕ) (tasks : List TaskSpec) (old new : List Instance) : Type 0 where
  pub count : length new ≡ length old
  pub each : (place : ℕ) (d : Instance) → place < length old → slice_index_or new place d ≡ settled_instance t (verdict_at tasks new place) (slice_index_or old place d)

-- a run before and after, where its instances are settled
pub record SettlesRun (t : ℕ) (tasks : List TaskSpec) (old new : Run) : Type 0 where
  pub instances : SettlesInstances t tasks old.instances new.instances
  pub rest : new ≡ record old { instances = new.instances }

-- whether the phase looks at a run: it is running, and its DAG is not paused
abbrev pub is_live : List DagRow → Run → Bool
is_live dags run = is_running run.state && is_unpaused dags run.dag_id

-- a run before and after the phase
abbrev pub SettlesIfLive : ℕ → List DagRow → Run → Run → Type 0
SettlesIfLive t dags old new = MatchBool (is_live dags old) (SettlesRun t (tasks_of dags old.dag_id) old new) (new ≡ old)

-- the state before and after the phase
pub record Settles (t : ℕ) (old new : StateRows) : Type 0 where
  pub runs : AllZip (SettlesIfLive t old.dags) old.runs new.runs
  pub rest : new ≡ record old { runs = new.runs }
