-- Which runs are busy (this product's own rule): those that have not ended, and those of which an instance is queued or
-- running. The others have ended, and none of their instances holds slots of a pool.
use Rattle.std.specs.Prelude.{ℕ, List, [], ◌∷◌, ◌++◌, Bool, true, false, not, ◌||◌, filter, map, if◌then◌else◌}
use Rattle.std.specs.List.{list_any}
use Rattle.std.specs.Ordering.{is_lt, nat_cmp}
use Rattle.af_graph.specs.declared.task_state.TaskState.{TaskState}
use Rattle.af_graph.specs.declared.task_state.TaskState.TheVariants.{Queued, Running}
use Rattle.af_runs.specs.Runs.{is_finished}
use Rattle.af_runs.specs.declared.run.Run.{Run}

-- whether an instance in this state is queued or running: it holds slots of its pool
abbrev pub is_held : TaskState → Bool
is_held Queued = true
is_held Running = true
is_held _ = false

-- whether an instance of a run is queued or running
abbrev pub holds_any : Run → Bool
holds_any run = list_any (λ instance. is_held instance.state) run.instances

-- whether a run has not ended, or one of its instances is queued or running
abbrev pub is_busy : Run → Bool
is_busy run = not (is_finished run.state) || holds_any run

-- those of these runs that are busy
abbrev pub busy_of : List Run → List Run
busy_of runs = filter is_busy runs

-- the numbers of those of these runs that are busy
abbrev pub busy_numbers : List Run → List ℕ
busy_numbers runs = map (λ run. run.number) (busy_of runs)

-- those of these runs that hold slots: an instance of each is queued or running
abbrev pub holders_of : List Run → List Run
holders_of runs = filter holds_any runs

-- the numbers of those of these runs that hold slots
abbrev pub holder_numbers : List Run → List ℕ
holder_numbers runs = map (λ run. run.number) (holders_of runs)

-- rising numbers, this one among them or not
abbrev pub with_number : ℕ → Bool → List ℕ → List ℕ
with_number number among numbers =
    filter (λ other. is_lt (nat_cmp other number)) numbers ++ ((if among then number ∷ [] else []) ++ filter (λ other. is_lt (nat_cmp number other)) numbers)
