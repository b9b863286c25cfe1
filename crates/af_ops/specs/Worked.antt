-- A small policy and a small state, for worked values: a viewer, a user who may read one DAG, one who may read its runs too, one who
-- may read all DAGs, edit one, and read and create the runs of that one, one who may edit all, one without permissions, and three DAGs of
-- one task, the first of them paused.
use Rattle.std.specs.Prelude.{ℕ, ◌^◌, pos, negsuc, List, [], ◌∷◌, ◌++◌, Bool, true, false, Option, Some, None, Result, Ok, codes}
use Rattle.af_listing.specs.Windows.{Cut}
use Rattle.af_policy.specs.declared.bad_input.Parameter.{Parameter}
use Rattle.af_role.specs.declared.action.Action.TheVariants.{Create, Read, Edit}
use Rattle.af_role.specs.declared.resource.ResourceKind.TheVariants.{Dags, DagRuns}
use Rattle.af_role.specs.Pairs.{on_dag, on_kind, on_runs}
use Rattle.af_role.specs.Roles.{RoleRow}
use Rattle.af_role.specs.DefaultRoles.{viewer_adds, user_adds}
use Rattle.af_policy.specs.Rows.{UserRow, PolicyRows}
use Rattle.af_graph.specs.declared.rule.Rule.TheVariants.{AllSuccess, OneFailed}
use Rattle.af_graph.specs.declared.task_spec.TaskSpec.{TaskSpec}
use Rattle.af_graph.specs.declared.task_state.TaskState.TheVariants.{Running, Success}
use Rattle.af_runs.specs.Instances.{new_instance}
use Rattle.af_runs.specs.Runs.{queued_run}
use Rattle.af_runs.specs.declared.instance.Instance.{Instance}
use Rattle.af_runs.specs.declared.run.Run.{Run}
use Rattle.af_runs.specs.declared.run_state.RunState.TheVariants as run_state
use Rattle.af_sched.specs.State.{StateRows}
use Rattle.af_sched.specs.declared.dag_row.DagRow.{DagRow}
use Rattle.af_ops.specs.declared.clear.Clear.{Clear}
use Rattle.af_ops.specs.declared.op.Op.{Op}
use Rattle.af_ops.specs.declared.shown_answer.Shown.{Shown}
use Rattle.af_ops.specs.declared.trigger.Trigger.{Trigger}
use Rattle.af_ops.specs.Edits.{with_run}
use Rattle.af_ops.specs.Effects.{new_run}
use Rattle.af_ops.specs.Rows.{ClearedTold, InstanceTold, TaskTold}
use Rattle.af_ops.specs.Served.{answer_of}
use Rattle.af_ops.specs.Standings.{StandingRows, history_limit}
use Rattle.af_ops.specs.Verdicts.{Verdict, Changes, Tells, judged}

abbrev pub users : List UserRow
users =
    record { name = codes "bob"; digest = codes "digest of bob"; roles = codes "OnlyB" ∷ [] }
    ∷ record { name = codes "pat"; digest = codes "digest of pat"; roles = codes "Public" ∷ [] }
    ∷ record { name = codes "ron"; digest = codes "digest of ron"; roles = codes "RunsB" ∷ [] }
    ∷ record { name = codes "sue"; digest = codes "digest of sue"; roles = codes "OwnB" ∷ [] }
    ∷ record { name = codes "uma"; digest = codes "digest of uma"; roles = codes "User" ∷ [] }
    ∷ record { name = codes "vera"; digest = codes "digest of vera"; roles = codes "Viewer" ∷ [] }
    ∷ []

abbrev pub roles : List RoleRow
roles =
    record { name = codes "OnlyB"; pairs = on_dag Read (codes "b") ∷ [] }
    ∷ record { name = codes "OwnB"; pairs = on_kind Read Dags ∷ on_dag Edit (codes "b") ∷ on_runs Create (codes "b") ∷ on_runs Read (codes "b") ∷ [] }
    ∷ record { name = codes "Public"; pairs = [] }
    ∷ record { name = codes "RunsB"; pairs = on_kind Read DagRuns ∷ on_dag Read (codes "b") ∷ [] }
    ∷ record { name = codes "User"; pairs = viewer_adds ++ user_adds }
    ∷ record { name = codes "Viewer"; pairs = viewer_adds }
    ∷ []

abbrev pub policy : PolicyRows
policy = record { users = users; roles = roles }

abbrev pub task : TaskSpec
task = record {
  task_id = codes "t";
  upstream = [];
  pool = codes "default_pool";
  pool_slots = 1;
  priority_weight = pos 1;
  retries = 0;
  retry_delay = 300;
  trigger_rule = AllSuccess;
}

abbrev pub dag : List ℕ → Bool → DagRow
dag id paused = record {
  dag = record { dag_id = id; tasks = task ∷ []; schedule = None; catchup = true; max_active_runs = 16 };
  is_paused = paused;
  cursor = None;
}

-- the state in which the DAG b is paused, or not
abbrev pub state_with : Bool → StateRows
state_with paused = record {
  dags = dag (codes "a") true ∷ dag (codes "b") paused ∷ dag (codes "c") false ∷ [];
  runs = [];
  next_run = 1;
  pools = [];
  variables = [];
}

-- the opening policy, with this many entries in the audit
abbrev pub at_entries : ℕ → Bool → StandingRows
at_entries entries paused = record { under = record { version = 0; seq = entries }; state = state_with paused }

abbrev pub opening : StandingRows
opening = at_entries 0 false

-- the verdict on what this user asks
abbrev pub asks : StandingRows → List ℕ → Op → Verdict
asks standing who asked = judged history_limit policy standing asked 0 (Some who)

-- what is told as a text
abbrev pub tells : List ℕ → Verdict
tells text = Tells (Some text)

abbrev pub changes : List ℕ → StateRows → Verdict
changes text next = Changes (Some text) next

-- what this user is told
abbrev pub is_told : StandingRows → List ℕ → Op → Option Shown
is_told standing who asked = answer_of asked standing.under (asks standing who asked)

-- what a listing is asked for, where nothing is said
abbrev pub first_page : Result Cut Parameter
first_page = Ok record { limit = 100; offset = 0 }

-- ---- runs

-- the state with a run of the DAG a, and then one of the DAG b, of these ids, dated one and two microseconds after 1970
abbrev pub with_runs : StateRows
with_runs =
    with_run (with_run (state_with false) (new_run (dag (codes "a") true) (codes "a") (codes "r1") 1))
    (new_run (dag (codes "b") false) (codes "b") (codes "r2") 2)

-- and two entries
abbrev pub later : StandingRows
later = record { under = record { version = 0; seq = 2 }; state = with_runs }

-- the same, where the history is full
abbrev pub full_later : StandingRows
full_later = record { under = record { version = 0; seq = 1_000_000 }; state = with_runs }

-- no number is left for a run
abbrev pub no_numbers : StandingRows
no_numbers = record { under = record { version = 0; seq = 0 }; state = record (state_with false) { next_run = 2 ^ 64 } }

-- the run of the DAG b
abbrev pub second : Run
second = queued_run 2 (new_run (dag (codes "b") false) (codes "b") (codes "r2") 2)

-- what this user is told at 2024-01-01T00:00:00.000001Z
abbrev pub is_told_then : StandingRows → List ℕ → Op → Option Shown
is_told_then standing who asked = answer_of asked standing.under (judged history_limit policy standing asked 1_704_067_200_000_001 (Some who))

abbrev pub trigger : Option (List ℕ) → Option ℕ → Trigger
trigger run_id date = record { dag_run_id = run_id; logical_date = date }

-- ---- tasks and instances

-- a task that waits for another one, and tells its upstream task twice
abbrev pub next_task : TaskSpec
next_task = record {
  task_id = codes "u";
  upstream = codes "t" ∷ codes "t" ∷ [];
  pool = codes "slow \"lane\"";
  pool_slots = 3;
  priority_weight = negsuc 6;
  retries = 2;
  retry_delay = 300;
  trigger_rule = OneFailed;
}

-- the DAG f of the two, the later one defined first
abbrev pub forked : DagRow
forked = record {
  dag = record { dag_id = codes "f"; tasks = next_task ∷ task ∷ []; schedule = None; catchup = true; max_active_runs = 16 };
  is_paused = false;
  cursor = None;
}

-- its two tasks, as they are told
abbrev pub waiting_told : TaskTold
waiting_told = record { downstream = []; task = next_task }

abbrev pub waited_told : TaskTold
waited_told = record { downstream = codes "u" ∷ []; task = task }

-- a run of it, r, and its first instance as it runs for the second time
abbrev pub forked_run : Run
forked_run = queued_run 3 (new_run forked (codes "f") (codes "r") 3)

abbrev pub tried : Instance
tried = record (new_instance next_task) { state = Running; try_number = 2; start_date = Some 5 }

abbrev pub half_run : Run
half_run = record forked_run { instances = tried ∷ new_instance task ∷ [] }

-- the state with that DAG and that run alone, and three entries
abbrev pub at_work : StandingRows
at_work = record {
  under = record { version = 0; seq = 3 };
  state = record { dags = forked ∷ []; runs = half_run ∷ []; next_run = 4; pools = []; variables = [] };
}

-- its two instances, as they are told
abbrev pub first_told : InstanceTold
first_told = record { run = half_run; task = next_task; instance = tried }

abbrev pub second_told : InstanceTold
second_told = record { run = half_run; task = task; instance = new_instance task }

-- ---- runs that are marked

-- the run of the DAG b once it is marked success at the beginning of 1970, and the state with it
abbrev pub ended : Run
ended = record second {
  state = run_state.Success;
  end_date = Some 0;
  instances = record (new_instance task) { state = Success; end_date = Some 0 } ∷ [];
}

abbrev pub with_ended : StateRows
with_ended = record with_runs {
  runs = queued_run 1 (new_run (dag (codes "a") true) (codes "a") (codes "r1") 1) ∷ ended ∷ [];
}

-- after that third entry
abbrev pub ended_later : StandingRows
ended_later = record { under = record { version = 0; seq = 3 }; state = with_ended }

-- ---- instances that are cleared

-- which instances are cleared, whatever the dates of their runs
abbrev pub clear : Bool → Bool → Option (List (List ℕ)) → Option (List ℕ) → Clear
clear dry_run only_failed task_ids run_id = record {
  dry_run = dry_run;
  only_failed = only_failed;
  task_ids = task_ids;
  dag_run_id = run_id;
  start_date = None;
  end_date = None;
}

-- the two instances of the run of the DAG f, as those that are cleared
abbrev pub first_cleared : ClearedTold
first_cleared = record { run = half_run; task_id = codes "u" }

abbrev pub second_cleared : ClearedTold
second_cleared = record { run = half_run; task_id = codes "t" }

-- the run once they are: the first has its task's retries as its tries after the next, and the second stood so already
abbrev pub cleared_half : Run
cleared_half = record half_run { instances = record (new_instance next_task) { try_number = 2; max_tries = 4 } ∷ new_instance task ∷ [] }

abbrev pub with_cleared : StateRows
with_cleared = record {
  dags = forked ∷ [];
  runs = cleared_half ∷ [];
  next_run = 4;
  pools = [];
  variables = [];
}

-- where they stand so already, and where they do not and the history is full
abbrev pub cleared_later : StandingRows
cleared_later = record { under = record { version = 0; seq = 4 }; state = with_cleared }

abbrev pub full_at_work : StandingRows
full_at_work = record at_work { under = record { version = 0; seq = 1_000_000 } }

-- ---- runs that are deleted

-- the state whose run of the DAG b is deleted: its number is not used again
abbrev pub without_second : StateRows
without_second = record with_runs { runs = queued_run 1 (new_run (dag (codes "a") true) (codes "a") (codes "r1") 1) ∷ [] }
