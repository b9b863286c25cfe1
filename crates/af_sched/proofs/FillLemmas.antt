-- Runs that stay and the others among them: each phase that goes run by run at all of them is the phase at the others.
use Rattle.std.proofs.Common.{◌≡◌, ◌+◌, ◌∙◌, ℕ, List, [], ◌∷◌, length, map, refl, sym, ap, subst, arith, Bool, true, false, cond, ◌&&◌, ◌==◌, Option, Some, None}
use Rattle.std.specs.Prelude.{count_by, filter, nat_lt, not, ◌||◌, MatchBool}
use Rattle.std.specs.List.{AllZip, AllByRecursion, list_any}
use Rattle.std.specs.List.Sorted.{IsStrictlySortedBy}
use Rattle.std.specs.Ordering.{nat_cmp}
use Rattle.std.specs.declared.cmp.Ordering.TheVariants.{Less}
use Rattle.std.proofs.lemmas.Bool.{false≢true, true≢false}
use Rattle.std.proofs.lemmas.Bool.Decides.{nat_tests}
use Rattle.std.proofs.lemmas.List.Sums.{length-filter}
use Rattle.af_runs.specs.Runs.{is_finished, is_of}
use Rattle.af_runs.specs.declared.run.Run.{Run}
use Rattle.af_runs.specs.declared.run_state.RunState.{RunState}
use Rattle.af_runs.specs.declared.run_state.RunState.TheVariants.{Queued, Running, Success, Failed}
use Rattle.af_graph.specs.declared.task_state.TaskState.{TaskState}
use Rattle.af_graph.specs.declared.task_state.TaskState.TheVariants as task_state
use Rattle.af_pool.specs.Occupants.{holds_slots}
use Rattle.af_runs.specs.Busy.{holds_any, is_busy, is_held}
use Rattle.af_runs.specs.declared.instance.Instance.{Instance}
use Rattle.af_sched.specs.Finish.{ended_run, finished_run}
use Rattle.af_sched.specs.Moves.{finished_runs}
use Rattle.af_sched.specs.Settle.{SettlesIfLive, SettlesRun}
use Rattle.af_sched.specs.Start.{is_queued, is_running, queued_before, running_of, started_run, started_runs, starts}
use Rattle.af_sched.specs.State.{is_unpaused, most_running, tasks_of}
use Rattle.af_sched.specs.declared.dag_row.DagRow.{DagRow}

-- ---- runs in a frame: Some are runs that stay, None is where the next of the others stands; those left over come last
abbrev pub fill : List (Option Run) → List Run → List Run
fill [] work = work
fill (Some run ∷ frame) work = run ∷ fill frame work
fill (None ∷ frame) [] = fill frame []
fill (None ∷ frame) (run ∷ work) = run ∷ fill frame work

-- what holds of the runs that stay
abbrev pub AllOf : (Run → Type 0) → List (Option Run) → Type 0
AllOf P [] = Unit {0}
AllOf P (Some run ∷ frame) = P run × AllOf P frame
AllOf P (None ∷ frame) = AllOf P frame

pub AllOf-both : (P Q R : Run → Type 0) → ((run : Run) → P run → Q run → R run) → (frame : List (Option Run)) → AllOf P frame → AllOf Q frame → AllOf R frame
AllOf-both P Q R both [] one other = tt
AllOf-both P Q R both (Some run ∷ frame) one other = (both run one.0 other.0, AllOf-both P Q R both frame one.1 other.1)
AllOf-both P Q R both (None ∷ frame) one other = AllOf-both P Q R both frame one other

AllOf-so : (P Q : Run → Type 0) → ((run : Run) → P run → Q run) → (frame : List (Option Run)) → AllOf P frame → AllOf Q frame
AllOf-so P Q so frame one = AllOf-both P P Q (λ run is _. so run is) frame one one

abbrev pub Idle : List (Option Run) → Type 0
Idle frame = AllOf (λ run. is_busy run ≡ false) frame

-- ---- what a run that is not busy is
held_too : (s : TaskState) → is_held s ≡ holds_slots s
held_too task_state.NoStatus = refl
held_too task_state.Scheduled = refl
held_too task_state.Queued = refl
held_too task_state.Running = refl
held_too task_state.Success = refl
held_too task_state.Failed = refl
held_too task_state.Skipped = refl
held_too task_state.UpstreamFailed = refl
held_too task_state.UpForRetry = refl

held_any : (instances : List Instance) → list_any (λ instance. is_held instance.state) instances ≡ list_any (λ instance. holds_slots instance.state) instances
held_any [] = refl
held_any (x ∷ xs) = λ i. held_too x.state i || held_any xs i

module _ (run : Run) (idle : is_busy run ≡ false) where
  done_of : (a b : Bool) → (not a || b) ≡ false → (a ≡ true) × (b ≡ false)
  done_of true b none = (refl, none)
  done_of false b none = absurd (true≢false none)

  pub idle_ended : is_finished run.state ≡ true
  idle_ended = (done_of (is_finished run.state) (holds_any run) idle).0

  pub idle_not_held : holds_any run ≡ false
  idle_not_held = (done_of (is_finished run.state) (holds_any run) idle).1

  pub idle_holds : list_any (λ instance. holds_slots instance.state) run.instances ≡ false
  idle_holds = sym (held_any run.instances) ∙ idle_not_held

  pub idle_no_queued : is_queued run.state ≡ false
  idle_no_queued = by run.state refl
    where
      by : (state : RunState) → run.state ≡ state → is_queued state ≡ false
      by Queued is = absurd (false≢true (sym (ap is_finished is) ∙ idle_ended))
      by Running is = refl
      by Success is = refl
      by Failed is = refl

  pub idle_no_running : is_running run.state ≡ false
  idle_no_running = by run.state refl
    where
      by : (state : RunState) → run.state ≡ state → is_running state ≡ false
      by Queued is = refl
      by Running is = absurd (false≢true (sym (ap is_finished is) ∙ idle_ended))
      by Success is = refl
      by Failed is = refl

-- ---- the phases that go run by run
module _ (g : Run → Run) (same : (run : Run) → is_busy run ≡ false → g run ≡ run) where
  map_fill : (frame : List (Option Run)) (work : List Run) → Idle frame → map g (fill frame work) ≡ fill frame (map g work)
  map_fill [] work idle = refl
  map_fill (Some run ∷ frame) work idle = λ i. same run idle.0 i ∷ map_fill frame work idle.1 i
  map_fill (None ∷ frame) [] idle = map_fill frame [] idle
  map_fill (None ∷ frame) (run ∷ work) idle = ap (λ (runs : List Run). g run ∷ runs) (map_fill frame work idle)

filter_idle : (test : Run → Bool) → ((run : Run) → is_busy run ≡ false → test run ≡ false) → (frame : List (Option Run)) (work : List Run) → Idle frame → filter test (fill frame work) ≡ filter test work
filter_idle test none [] work idle = refl
filter_idle test none (Some run ∷ frame) work idle = rw (none run idle.0) (filter_idle test none frame work idle.1)
filter_idle test none (None ∷ frame) [] idle = filter_idle test none frame [] idle
filter_idle test none (None ∷ frame) (run ∷ work) idle = ap (λ (runs : List Run). cond (test run) (run ∷ runs) runs) (filter_idle test none frame work idle)

count_fill : (test : Run → Bool) → ((run : Run) → is_busy run ≡ false → test run ≡ false) → (frame : List (Option Run)) (work : List Run) → Idle frame → count_by test (fill frame work) ≡ count_by test work
count_fill test none frame work idle =
    sym (length-filter test (fill frame work)) ∙ ap (length {A = Run}) (filter_idle test none frame work idle) ∙ length-filter test work

pub both_no : (a b : Bool) → b ≡ false → (a && b) ≡ false
both_no true b fails = fails
both_no false b fails = refl

module _ (t : ℕ) (dags : List DagRow) (frame : List (Option Run)) (idle : Idle frame) where
  running_fill : (work : List Run) (id : List ℕ) → running_of (fill frame work) id ≡ running_of work id
  running_fill work id = count_fill (λ run. is_of id run && is_running run.state) (λ run still. both_no (is_of id run) (is_running run.state) (idle_no_running run still)) frame work idle

  queued_no : (a b c : Bool) → b ≡ false → (a && b && c) ≡ false
  queued_no true b c fails = ap (λ (x : Bool). x && c) fails
  queued_no false b c fails = refl

  queued_fill : (work : List Run) (one : Run) → queued_before (fill frame work) one ≡ queued_before work one
  queued_fill work one =
      count_fill (λ other. is_of one.dag_id other && is_queued other.state && nat_lt other.number one.number) (λ run still. queued_no (is_of one.dag_id run) (is_queued run.state) (nat_lt run.number one.number) (idle_no_queued run still)) frame work idle

  starts_fill : (work : List Run) → starts dags (fill frame work) ≡ starts dags work
  starts_fill work i run =
      is_queued run.state && is_unpaused dags run.dag_id && nat_lt (running_fill work run.dag_id i + queued_fill work run i) (most_running dags run.dag_id)

  idle_starts : (work : List Run) (run : Run) → is_busy run ≡ false → starts dags work run ≡ false
  idle_starts work run still =
      ap (λ (b : Bool). b && is_unpaused dags run.dag_id && nat_lt (running_of work run.dag_id + queued_before work run) (most_running dags run.dag_id)) (idle_no_queued run still)

  pub started_fill : (work : List Run) → started_runs t dags (fill frame work) ≡ fill frame (started_runs t dags work)
  started_fill work =
      (λ i. map (λ run. cond (starts_fill work i run) (started_run t run) run) (fill frame work))
      ∙ map_fill (λ run. cond (starts dags work run) (started_run t run) run) (λ run still. ap (λ (b : Bool). cond b (started_run t run) run) (idle_starts work run still)) frame work idle

  idle_ends : (run : Run) → is_busy run ≡ false → finished_run t (tasks_of dags run.dag_id) run ≡ run
  idle_ends run still = ap (λ (b : Bool). cond (b && Rattle.af_sched.specs.Finish.all_finished run.instances) (ended_run t (tasks_of dags run.dag_id) run) run) (idle_no_running run still)

  pub finished_fill : (work : List Run) → finished_runs t dags (fill frame work) ≡ fill frame (finished_runs t dags work)
  finished_fill work = map_fill (λ run. finished_run t (tasks_of dags run.dag_id) run) idle_ends frame work idle

module _ (t : ℕ) (dags : List DagRow) where
  idle_settles : (run : Run) → is_busy run ≡ false → SettlesIfLive t dags run run
  idle_settles run still =
      subst (λ (b : Bool). MatchBool (b && is_unpaused dags run.dag_id) (SettlesRun t (tasks_of dags run.dag_id) run run) (run ≡ run)) (sym (idle_no_running run still)) refl

  pub settles_fill : (frame : List (Option Run)) → Idle frame → (old new : List Run) → AllZip (SettlesIfLive t dags) old new → AllZip (SettlesIfLive t dags) (fill frame old) (fill frame new)
  settles_fill [] idle old new all = all
  settles_fill (Some run ∷ frame) idle old new all = (idle_settles run idle.0, settles_fill frame idle.1 old new all)
  settles_fill (None ∷ frame) idle [] [] all = settles_fill frame idle [] [] all
  settles_fill (None ∷ frame) idle [] (y ∷ ys) all = absurd all
  settles_fill (None ∷ frame) idle (x ∷ xs) [] all = absurd all
  settles_fill (None ∷ frame) idle (x ∷ xs) (y ∷ ys) all = (all.0, settles_fill frame idle xs ys all.1)

-- ---- the numbers of runs that stay are none of the others'
abbrev pub numbers : List Run → List ℕ
numbers runs = map (λ (run : Run). run.number) runs

abbrev pub is_one_of : List ℕ → ℕ → Bool
is_one_of ns number = list_any (λ n. n == number) ns

abbrev pub Above : ℕ → List Run → Type 0
Above number runs = AllByRecursion (λ q. nat_cmp number q ≡ Less) (numbers runs)

pub apart : (a b : ℕ) → nat_cmp a b ≡ Less → (b == a) ≡ false
apart a b less = grind (arith, nat_tests)

apart_too : (a b : ℕ) → nat_cmp a b ≡ Less → (a == b) ≡ false
apart_too a b less = grind (arith, nat_tests)

above_fill : (number : ℕ) (frame : List (Option Run)) (work : List Run) → Above number (fill frame work) → is_one_of (numbers work) number ≡ false
above_fill number [] [] above = refl
above_fill number [] (run ∷ work) above = (λ i. apart number run.number above.0 i || above_fill number [] work above.1 i)
above_fill number (Some run ∷ frame) work above = above_fill number frame work above.1
above_fill number (None ∷ frame) [] above = refl
above_fill number (None ∷ frame) (run ∷ work) above = (λ i. apart number run.number above.0 i || above_fill number frame work above.1 i)

abbrev pub Apart : List (Option Run) → List ℕ → Type 0
Apart frame ns = AllOf (λ run. is_one_of ns run.number ≡ false) frame

above_stays : (number : ℕ) (frame : List (Option Run)) (work : List Run) → Above number (fill frame work) → AllOf (λ run. (number == run.number) ≡ false) frame
above_stays number [] work above = tt
above_stays number (Some run ∷ frame) work above = (apart_too number run.number above.0, above_stays number frame work above.1)
above_stays number (None ∷ frame) [] above = above_stays number frame [] above
above_stays number (None ∷ frame) (run ∷ work) above = above_stays number frame work above.1

pub apart_from : (frame : List (Option Run)) (work : List Run) → IsStrictlySortedBy nat_cmp (numbers (fill frame work)) → Apart frame (numbers work)
unfolding IsStrictlySortedBy
apart_from [] work order = tt
apart_from (Some run ∷ frame) work order = (above_fill run.number frame work order.0, apart_from frame work order.1)
apart_from (None ∷ frame) [] order = apart_from frame [] order
apart_from (None ∷ frame) (run ∷ work) order =
    AllOf-both (λ other. (run.number == other.number) ≡ false) (λ other. is_one_of (numbers work) other.number ≡ false) (λ other. is_one_of (run.number ∷ numbers work) other.number ≡ false) (λ other one rest i. one i || rest i) frame (above_stays run.number frame work order.0) (apart_from frame work order.1)
