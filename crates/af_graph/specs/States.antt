-- The states of a task instance (Airflow 2, "Tasks": the possible states for a task instance).
use Rattle.std.specs.Prelude.{ℕ, ◌==◌, Bool, true, false, List}
use Rattle.std.specs.List.{count_by}
use Rattle.af_graph.specs.declared.task_state.TaskState.{TaskState}
use Rattle.af_graph.specs.declared.task_state.TaskState.TheVariants.{NoStatus, Scheduled, Queued, Running, Success, Failed, Skipped, UpstreamFailed, UpForRetry}

-- the instance has ended, and no tick moves it on
abbrev pub is_finished : TaskState → Bool
is_finished NoStatus = false
is_finished Scheduled = false
is_finished Queued = false
is_finished Running = false
is_finished Success = true
is_finished Failed = true
is_finished Skipped = true
is_finished UpstreamFailed = true
is_finished UpForRetry = false

-- the state's place in the list of states, by which two states are compared
abbrev pub state_rank : TaskState → ℕ
state_rank NoStatus = 0
state_rank Scheduled = 1
state_rank Queued = 2
state_rank Running = 3
state_rank Success = 4
state_rank Failed = 5
state_rank Skipped = 6
state_rank UpstreamFailed = 7
state_rank UpForRetry = 8

abbrev pub same_state : TaskState → TaskState → Bool
same_state one other = state_rank one == state_rank other

-- how many of the states are this one
abbrev pub number_in : TaskState → List TaskState → ℕ
number_in state states = count_by (same_state state) states
