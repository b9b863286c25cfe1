-- Laws about operations, in words of their own.
use Rattle.std.specs.Prelude.{◌≡◌, ◌≢◌, ◌↔◌, ◌<◌, ◌≤◌, ◌+◌, ◌||◌, ℕ, List, [], ◌∷◌, ◌++◌, Bool, true, false, not, nat_eq, filter, map, length, All, Contains, Option, Some, None, option_map, unwrap_or, Result, Ok, ⊤, codes, if◌then◌else◌}
use Rattle.std.specs.Cmp.Lexicographic.{pointwise}
use Rattle.std.specs.List.Sorted.{IsStrictlySortedBy}
use Rattle.std.specs.Ordering.{nat_cmp}
use Rattle.af_listing.specs.Pages.{cut}
use Rattle.af_listing.specs.Windows.{Cut}
use Rattle.serde_json.specs.Written.{compact_text}
use Rattle.af_graph.specs.Schedules.{is_scheduled}
use Rattle.af_graph.specs.declared.schedule.Schedule.{Schedule}
use Rattle.af_graph.specs.declared.task_state.TaskState.TheVariants.{NoStatus}
use Rattle.af_runs.specs.Clears.{run_after}
use Rattle.af_runs.specs.Laws.{TouchesChosenAlone}
use Rattle.af_runs.specs.Runs.{AreRuns, is_of, run_of, runs_of}
use Rattle.af_runs.specs.declared.run.Run.{Run}
use Rattle.af_runs.specs.declared.run_state.RunState.TheVariants.{Queued}
use Rattle.af_runs.specs.declared.run_type.RunType.TheVariants.{Manual}
use Rattle.af_sched.specs.Backfills.{Backfills}
use Rattle.af_sched.specs.State.{AreInOrder, StateRows, is_of_id}
use Rattle.af_sched.specs.State as sched
use Rattle.af_sched.specs.declared.dag_row.DagRow.{DagRow}
use Rattle.af_policy.specs.declared.ask.Ask.TheVariants.{Made, Bad}
use Rattle.af_policy.specs.Grants.{Readable, shows_runs}
use Rattle.af_ops.specs.declared.backfill.Backfill.{Backfill}
use Rattle.af_ops.specs.declared.body_fault.BodyFault.{BodyFault}
use Rattle.af_ops.specs.declared.call.Call.{Call}
use Rattle.af_ops.specs.declared.call.Call.TheVariants.{State, Entries, Policy}
use Rattle.af_ops.specs.declared.clear.Clear.{Clear}
use Rattle.af_ops.specs.declared.endpoint.Endpoint.{Endpoint}
use Rattle.af_ops.specs.declared.method.Method.TheVariants.{Get}
use Rattle.af_ops.specs.declared.op.Op.{Op}
use Rattle.af_ops.specs.declared.op.Op.TheVariants as op
use Rattle.af_ops.specs.declared.path_template.PathTemplate.{PathTemplate}
use Rattle.af_ops.specs.declared.policy_op.PolicyOp.{PolicyOp}
use Rattle.af_ops.specs.declared.policy_op.PolicyOp.TheVariants as policy_op
use Rattle.af_ops.specs.declared.trigger.Trigger.{Trigger}
use Rattle.af_ops.specs.Effects.{Effect, all_tasks, effect_of, filter_of, id_or, new_runs_data, one_run, selection_of}
use Rattle.af_ops.specs.Calls.{call_of_row}
use Rattle.af_ops.specs.Calls as calls
use Rattle.af_ops.specs.Endpoints.{dag_id_in, dag_of, endpoint_of}
use Rattle.af_ops.specs.Listings.{read_rows}
use Rattle.af_ops.specs.PolicyOps.{synced_dag}
use Rattle.af_ops.specs.Table.{Segment, Text, Part, endpoint_at, route_of, segments_of}

-- the rows of a page stand in byte order of their ids, and no id stands twice
abbrev pub ListingsGoById : Type 0
ListingsGoById =
    (reads : List ℕ → Bool) (window : Cut) (state : StateRows) → AreInOrder state.dags
    → AreInOrder (cut window (read_rows reads (λ row. row.dag.dag_id) state.dags))

-- an operation that is asked for by GET leaves every state as it is
abbrev pub ReadingsLeaveTheState : Type 0
ReadingsLeaveTheState =
    (reads : Readable) (state : StateRows) (asked : Op) (now : ℕ) (effect : Effect) → (route_of (endpoint_of asked)).method ≡ Get
    → effect_of reads state asked now ≡ Ok effect → effect.next ≡ None

-- what is told to be a change leaves another state
abbrev pub ChangesLeaveAnotherState : Type 0
ChangesLeaveAnotherState =
    (reads : Readable) (state : StateRows) (asked : Op) (now : ℕ) (effect : Effect) (next : StateRows) → effect_of reads state asked now ≡ Ok effect
    → effect.next ≡ Some next → next ≢ state

-- the other DAGs, their runs, the pools and the variables are the same
pub record LeavesOthers (dag_id : List ℕ) (old new : StateRows) : Type 0 where
  pub dags : filter (λ row. not (is_of_id dag_id row)) new.dags ≡ filter (λ row. not (is_of_id dag_id row)) old.dags
  pub runs : filter (λ run. not (is_of dag_id run)) new.runs ≡ filter (λ run. not (is_of dag_id run)) old.runs
  pub pools : new.pools ≡ old.pools
  pub variables : new.variables ≡ old.variables

-- an operation at one DAG leaves all other DAGs, their runs, the pools and the variables as they were
abbrev pub ChangesStayAtTheirDag : Type 0
ChangesStayAtTheirDag =
    (reads : Readable) (state : StateRows) (asked : Op) (now : ℕ) (effect : Effect) (next : StateRows) (dag_id : List ℕ) → effect_of reads state asked now ≡ Ok effect
    → effect.next ≡ Some next → dag_of asked ≡ Some dag_id → LeavesOthers dag_id state next

-- the listing of all runs has exactly the runs whose DAG is read, and of whose DAG the runs are read
abbrev pub RunsListedAreThoseRead : Type 0
RunsListedAreThoseRead =
    (readable : Readable) (state : StateRows) (run : Run)
    → Contains (read_rows (shows_runs readable) (λ it. it.dag_id) state.runs) run
    ↔ (Contains state.runs run × (readable.dags run.dag_id ≡ true) × (readable.runs run.dag_id ≡ true))

-- the runs of a page, of those of one DAG and of those that are shown, stand in order of their numbers, and no run stands twice
abbrev pub RunsListedGoByNumber : Type 0
RunsListedGoByNumber =
    (shows : List ℕ → Bool) (window : Cut) (dag_id : List ℕ) (state : StateRows) → AreRuns state.runs state.next_run
    → IsStrictlySortedBy nat_cmp (map (λ run. run.number) (cut window (read_rows shows (λ run. run.dag_id) state.runs)))
    × IsStrictlySortedBy nat_cmp (map (λ run. run.number) (cut window (runs_of state.runs dag_id)))

-- the run that is shown is the one of its DAG that has the id
abbrev pub RunsAreShownByTheirIds : Type 0
RunsAreShownByTheirIds =
    (dag_id run_id : List ℕ) (state : StateRows) (run : Run) → AreRuns state.runs state.next_run
    → (run_of state.runs dag_id run_id ≡ Some run) ↔ (Contains state.runs run × (run.dag_id ≡ dag_id) × (run.run_id ≡ run_id))

-- A run of this DAG was added last, of this id and this date, at which its interval begins and ends: it was triggered by hand, is queued,
-- and neither began nor ended; it has for each task of the DAG an instance in no state, never tried; its number
-- is above those of all runs, and below the next one. All else is the same.
pub record AddsRun (dag_id run_id : List ℕ) (date : ℕ) (old new : StateRows) (run : Run) : Type 0 where
  pub last : new.runs ≡ old.runs ++ run ∷ []
  pub of_dag : run.dag_id ≡ dag_id
  pub named : run.run_id ≡ run_id
  pub dated : run.logical_date ≡ date
  pub begins : run.interval.start ≡ date
  pub ends : run.interval.end ≡ date
  pub manual : run.run_type ≡ Manual
  pub queued : run.state ≡ Queued
  pub not_begun : run.start_date ≡ None
  pub not_ended : run.end_date ≡ None
  pub whole : option_map (λ row. length row.dag.tasks) (sched.dag_of old.dags dag_id) ≡ Some (length run.instances)
  pub untried : All (λ it. (it.state ≡ NoStatus) × (it.try_number ≡ 0)) run.instances
  pub above : All (λ other. other.number < run.number) old.runs
  pub next : new.next_run ≡ run.number + 1
  pub dags : new.dags ≡ old.dags
  pub pools : new.pools ≡ old.pools
  pub variables : new.variables ≡ old.variables

-- what triggers a run adds one, at the date that is asked for, else at the moment, and of the id that is asked for, else of the one
-- made of that date; nothing else is changed
abbrev pub TriggersAddARun : Type 0
TriggersAddARun =
    (reads : Readable) (state : StateRows) (dag_id : List ℕ) (input : Result Trigger BodyFault) (now : ℕ) (effect : Effect)
    → AreRuns state.runs state.next_run → effect_of reads state (op.TriggerRun dag_id input) now ≡ Ok effect
    → (asked : Trigger) × (input ≡ Ok asked)
    × ((next : StateRows) × (effect.next ≡ Some next) × ((run : Run) × AddsRun dag_id (id_or asked.dag_run_id (unwrap_or asked.logical_date now)) (unwrap_or asked.logical_date now) state next run))

-- a backfill of a DAG that is not refused leaves what `Backfills` says of the range that is asked for, by the DAG's schedule. Where it adds no
-- run, the state is as it was. The reply tells all runs that are added
abbrev pub BackfillsFillTheirRange : Type 0
BackfillsFillTheirRange =
    (reads : Readable) (state : StateRows) (dag_id : List ℕ) (input : Result Backfill BodyFault) (now : ℕ) (effect : Effect)
    → effect_of reads state (op.BackfillDag dag_id input) now ≡ Ok effect
    → (asked : Backfill) × ((row : DagRow) × ((schedule : Schedule) × ((left : Backfills row.dag (is_scheduled schedule) asked.start_date asked.end_date state (unwrap_or effect.next state))
    × (input ≡ Ok asked) × (sched.dag_of state.dags dag_id ≡ Some row) × (row.dag.schedule ≡ Some schedule)
    × (effect.reply ≡ Some (compact_text (new_runs_data left.added))))))

-- a dry run of a clear leaves every state as it is
abbrev pub DryRunsLeaveTheState : Type 0
DryRunsLeaveTheState =
    (reads : Readable) (state : StateRows) (now : ℕ) (effect : Effect)
    → ((dag_id run_id : List ℕ) → effect_of reads state (op.ClearRun dag_id run_id (Ok true)) now ≡ Ok effect → effect.next ≡ None)
    × ((dag_id : List ℕ) (asked : Clear) → asked.dry_run ≡ true → effect_of reads state (op.ClearInstances dag_id (Ok asked)) now ≡ Ok effect → effect.next ≡ None)

-- a clear changes the runs of its DAG that are asked for alone, and of them the instances that are chosen: each other instance is
-- as it was; a clear of one run asks for that run, and chooses all its instances
abbrev pub ClearsTouchChosenAlone : Type 0
ClearsTouchChosenAlone =
    (reads : Readable) (state : StateRows) (dag_id : List ℕ) (now : ℕ) (effect : Effect) (next : StateRows) → effect.next ≡ Some next
    → ((input : Result Clear BodyFault) → effect_of reads state (op.ClearInstances dag_id input) now ≡ Ok effect
    → (asked : Clear) × ((row : DagRow) × (input ≡ Ok asked) × (sched.dag_of state.dags dag_id ≡ Some row)
    × (next ≡ record state { runs = map (run_after (filter_of dag_id asked) (selection_of row.dag.tasks asked)) state.runs })
    × All (TouchesChosenAlone (selection_of row.dag.tasks asked)) state.runs))
    × ((run_id : List ℕ) (input : Result Bool BodyFault) → effect_of reads state (op.ClearRun dag_id run_id input) now ≡ Ok effect
    → (row : DagRow) × (sched.dag_of state.dags dag_id ≡ Some row)
    × (next ≡ record state { runs = map (run_after (one_run dag_id run_id) (all_tasks row.dag.tasks)) state.runs })
    × All (TouchesChosenAlone (all_tasks row.dag.tasks)) state.runs)

-- the number that the next run gets never falls
abbrev pub RunNumbersRise : Type 0
RunNumbersRise =
    (reads : Readable) (state : StateRows) (asked : Op) (now : ℕ) (effect : Effect) (next : StateRows) → effect_of reads state asked now ≡ Ok effect
    → effect.next ≡ Some next → state.next_run ≤ next.next_run

-- the texts between a path's slashes are those of a pattern, where a part stands for any text that is not empty
abbrev pub Matches : List Segment → List (List ℕ) → Type 0
Matches [] [] = ⊤
Matches [] (text ∷ path) = ⊥
Matches (segment ∷ pattern) [] = ⊥
Matches (Text expected ∷ pattern) (text ∷ path) = (text ≡ expected) × Matches pattern path
Matches (Part name ∷ pattern) (text ∷ path) = (text ≢ []) × Matches pattern path

-- a method and a path name one operation at most
abbrev pub OneRowAtMost : Type 0
OneRowAtMost =
    (path : List (List ℕ)) (one other : Endpoint) → (route_of one).method ≡ (route_of other).method
    → Matches (segments_of (route_of one).template) path → Matches (segments_of (route_of other).template) path → one ≡ other

-- each operation is found by its method and its path
abbrev pub EachIsFound : Type 0
EachIsFound = (it : Endpoint) → endpoint_at (route_of it).method (route_of it).template ≡ Some it

-- whether a path has a part for a DAG's id
abbrev pub names_dag : List Segment → Bool
names_dag [] = false
names_dag (Text text ∷ rest) = names_dag rest
names_dag (Part name ∷ rest) = pointwise nat_eq name (codes "dag_id") || names_dag rest

-- the DAG of a path is the one that a change takes over the access control of
abbrev pub IsSyncAt : PolicyOp → Option (List ℕ) → Type 0
IsSyncAt policy_op.Me dag = None ≡ dag
IsSyncAt (policy_op.Read asked) dag = None ≡ dag
IsSyncAt (policy_op.Change (Made change)) dag = synced_dag change ≡ dag
IsSyncAt (policy_op.Change (Bad kind input)) dag = ⊤
IsSyncAt (policy_op.Unread kind) dag = ⊤

-- the DAG of a path is the one that is asked about; where the body of a change is none, nothing is said of it
abbrev pub IsAt : Call → Option (List ℕ) → Type 0
IsAt (State it) dag = dag_of it ≡ dag
IsAt (Entries asked) dag = None ≡ dag
IsAt (Policy it) dag = IsSyncAt it dag

-- the id of a DAG that is the first part, where the path has one
abbrev pub dag_at : PathTemplate → List (List ℕ) → Option (List ℕ)
dag_at template parts = if names_dag (segments_of template) then dag_id_in parts else None

-- what is read of a row of the table is of that row, and it names the DAG of the path's part, where the path has one
abbrev pub OperationsAreOfTheirRow : Type 0
OperationsAreOfTheirRow =
    (it : Endpoint) (parts : List (List ℕ)) (query body : List ℕ) (asked : Call) → call_of_row it parts query body ≡ Some asked
    → (calls.endpoint_of asked ≡ it) × IsAt asked (dag_at (route_of it).template parts)
