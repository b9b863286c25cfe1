-- A tick fills no pool past its slots.
use Rattle.std.proofs.Common.{◌≡◌, ◌<◌, ◌≤◌, ◌+◌, ◌∙◌, ℕ, List, [], ◌∷◌, ◌++◌, length, map, get_or, refl, sym, ap, subst, arith, suc, Bool, true, false, cond, ◌&&◌, max}
use Rattle.std.specs.Prelude.{All, fold, is_none, Option, Some, None}
use Rattle.std.specs.Option.{option_map_or}
use Rattle.std.specs.List.{AllByRecursion, IsDistinct}
use Rattle.std.specs.List.Sorted.{IsStrictlySortedBy}
use Rattle.std.specs.Ordering.{nat_cmp}
use Rattle.std.specs.declared.cmp.Ordering.TheVariants.{Less}
use Rattle.std.specs.Cmp.{nat_cmp_total}
use Rattle.std.proofs.lemmas.Bool.{false≢true}
use Rattle.std.proofs.lemmas.Bool.Decides.{nat_tests}
use Rattle.std.proofs.lemmas.List.Elements.{All-push, All-weaker}
use Rattle.af_names.proofs.OrderLemmas.{order-push}
use Rattle.af_graph.specs.Schedules.{is_scheduled}
use Rattle.af_graph.specs.States.{same_state}
use Rattle.af_graph.specs.declared.schedule.Schedule.{Schedule}
use Rattle.af_graph.specs.declared.task_spec.TaskSpec.{TaskSpec}
use Rattle.af_graph.specs.declared.task_state.TaskState.{TaskState}
use Rattle.af_graph.specs.declared.task_state.TaskState.TheVariants as task_state
use Rattle.af_pool.specs.Occupants.{holds_slots}
use Rattle.af_pool.specs.Pools.{slots_of}
use Rattle.af_runs.specs.Runs.{AreRuns, add_fault, queued_run}
use Rattle.af_runs.specs.declared.new_run.NewRun.{NewRun}
use Rattle.af_runs.specs.declared.run.Run.{Run}
use Rattle.af_sched.specs.Choosing.{held_of, same_seat}
use Rattle.af_sched.specs.Create.{with_run, with_runs_of, runs_of_row, runs_due, run_for, moved_row, created}
use Rattle.af_sched.specs.Due.{taken_points}
use Rattle.af_sched.specs.Placed.{Placed, placed_in}
use Rattle.af_sched.specs.Queue.{occupied, may_queue, finds_room, with_queued}
use Rattle.af_sched.specs.Settle.{is_live}
use Rattle.af_sched.specs.Start.{started_runs}
use Rattle.af_sched.specs.State.{StateRows, tasks_of}
use Rattle.af_sched.specs.Tick.{IsTick}
use Rattle.af_sched.specs.declared.dag_row.DagRow.{DagRow}
use Rattle.af_sched.proofs.CandidateLemmas.{distinct_in, rise_from}
use Rattle.af_sched.proofs.KeyLemmas.{keeps_settled_too, numbers_same}
use Rattle.af_sched.proofs.LikeLemmas.{placed_alike}
use Rattle.af_sched.proofs.FittingLemmas.{given_fits}
use Rattle.af_sched.proofs.SlotsLemmas.{hold, hold_new, occupied_push, occupied_started, occupied_settled, occupied_finished, occupied_queued, Idle}
use Rattle.af_sched.proofs.StartLemmas.{get_or-same}
use Rattle.af_sched.proofs.TickLemmas.{alike_moved}

-- ---- runs are added in order, and hold nothing
record Fresh (dags : List DagRow) (pool : List ℕ) (held : ℕ) (state : StateRows) : Type 0 where
  in_order : IsStrictlySortedBy nat_cmp (map (λ (run : Run). run.number) state.runs)
  numbered : All (λ (run : Run). run.number < state.next_run) state.runs
  holds : occupied dags state.runs pool ≡ held

abbrev IsIdle : List ℕ → NewRun → Type 0
IsIdle pool new = (ts : List TaskSpec) → hold pool ts new.instances ≡ 0

less_from : (a b : ℕ) → a < b → nat_cmp a b ≡ Less
less_from a b below = grind (arith, nat_tests)

module _ (dags : List DagRow) (pool : List ℕ) (held : ℕ) where
  fresh_with : (b : Bool) (state : StateRows) (new : NewRun) → IsIdle pool new → Fresh dags pool held state → Fresh dags pool held (cond b (record state { runs = state.runs ++ queued_run state.next_run new ∷ []; next_run = state.next_run + 1 }) state)
  fresh_with false state new idle fresh = fresh
  fresh_with true state new idle fresh =
      let run : Run = queued_run state.next_run new in
      record {
        in_order = order-push (λ (r : Run). r.number) nat_cmp_total state.runs run fresh.in_order (λ j d inside. less_from (get_or state.runs j d).number state.next_run (fresh.numbered j d inside));
        numbered = All-push (λ (other : Run). other.number < state.next_run + 1) state.runs run (All-weaker (λ (other : Run). other.number < state.next_run) (λ (other : Run). other.number < state.next_run + 1) (λ other below. omega arith) state.runs fresh.numbered) (omega arith);
        holds = occupied_push dags state.runs run pool (idle (tasks_of dags new.dag_id)) ∙ fresh.holds;
      }

  fresh_fold : (news : List NewRun) (state : StateRows) → AllByRecursion (IsIdle pool) news → Fresh dags pool held state → Fresh dags pool held (fold with_run state news)
  fresh_fold [] state idle fresh = fresh
  fresh_fold (new ∷ news) state idle fresh =
      fresh_fold news (with_run state new) idle.1 (fresh_with (is_none (add_fault state.runs state.next_run new.dag_id new.run_id new.logical_date)) state new idle.0 fresh)

  idle_due : (row : DagRow) (is_point : ℕ → Bool) (points : List ℕ) → AllByRecursion (IsIdle pool) (map (run_for row.dag is_point) points)
  idle_due row is_point [] = tt
  idle_due row is_point (p ∷ points) = (λ ts. hold_new pool ts row.dag.tasks, idle_due row is_point points)

  idle_of_row : (t : ℕ) (row : DagRow) → AllByRecursion (IsIdle pool) (runs_of_row t row)
  idle_of_row t row = by row.is_paused row.dag.schedule row.cursor
    where
      due : (schedule : Schedule) (cursor : Option ℕ) → AllByRecursion (IsIdle pool) (option_map_or (runs_due t row.dag (is_scheduled schedule)) cursor [])
      due schedule None = tt
      due schedule (Some cursor) = idle_due row (is_scheduled schedule) (taken_points row.dag.catchup (is_scheduled schedule) cursor t)

      by : (b : Bool) (schedule : Option Schedule) (cursor : Option ℕ) → AllByRecursion (IsIdle pool) (cond b [] (option_map_or (λ s. option_map_or (runs_due t row.dag (is_scheduled s)) cursor []) schedule []))
      by true schedule cursor = tt
      by false None cursor = tt
      by false (Some schedule) cursor = due schedule cursor

  fresh_rows : (t : ℕ) (rows : List DagRow) (state : StateRows) → Fresh dags pool held state → Fresh dags pool held (fold (with_runs_of t) state rows)
  fresh_rows t [] state fresh = fresh
  fresh_rows t (row ∷ rows) state fresh = fresh_rows t rows (with_runs_of t state row) (fresh_fold (runs_of_row t row) state (idle_of_row t row) fresh)

-- ---- what is queued held nothing before
not_held : (s : TaskState) → same_state s task_state.Scheduled ≡ true → holds_slots s ≡ false
not_held task_state.Queued is = absurd (false≢true is)
not_held task_state.Running is = absurd (false≢true is)
not_held task_state.NoStatus is = refl
not_held task_state.Scheduled is = refl
not_held task_state.UpForRetry is = refl
not_held task_state.Success is = refl
not_held task_state.Failed is = refl
not_held task_state.UpstreamFailed is = refl
not_held task_state.Skipped is = refl

first_of : (a b : Bool) → (a && b) ≡ true → a ≡ true
first_of true b is = refl
first_of false b is = absurd (false≢true is)

rec_from : (P : Placed → Type 0) (xs : List Placed) → ((k : ℕ) (d : Placed) → k < length xs → P (get_or xs k d)) → AllByRecursion P xs
rec_from P [] all = tt
rec_from P (x ∷ xs) all = (all 0 x (omega arith), rec_from P xs (λ k d inside. all (suc k) d (omega arith)))

pub slots_kept : (t : ℕ) (old new : StateRows) (pool : List ℕ) → AreRuns old.runs old.next_run → IsTick t old new → occupied new.dags new.runs pool ≤ max (slots_of new.pools pool) (occupied old.dags old.runs pool)
slots_kept t old new pool are tick =
    let dags : List DagRow = map (moved_row t) old.dags in
    let runs : List Run = (created t old).runs in
    let settled : StateRows = tick.settled in
    let queued : StateRows = tick.queued in
    let q = tick.queues.is_queued in
    let fresh = fresh_rows old.dags pool (occupied old.dags old.runs pool) t old.dags old (record { in_order = are.in_order; numbered = are.numbered; holds = refl }) in
    let moved : occupied dags runs pool ≡ occupied old.dags runs pool = ap (λ (ps : List Placed). held_of ps pool) (placed_alike old.dags dags (alike_moved t old.dags) runs) in
    let same_dags : settled.dags ≡ dags = ap (λ (s : StateRows). s.dags) tick.settles.rest in
    let before : occupied settled.dags settled.runs pool ≡ occupied old.dags old.runs pool =
    ap (λ (d : List DagRow). occupied d settled.runs pool) same_dags ∙ occupied_settled t dags pool (started_runs t dags runs) settled.runs tick.settles.runs ∙ occupied_started t dags runs pool ∙ moved ∙ fresh.holds in
    let order : IsStrictlySortedBy nat_cmp (map (λ (run : Run). run.number) settled.runs) = subst (IsStrictlySortedBy nat_cmp) (sym (numbers_same runs settled.runs (keeps_settled_too t dags runs settled.runs tick.settles.runs))) fresh.in_order in
    let distinct : IsDistinct same_seat (placed_in settled.dags settled.runs) = distinct_in settled.dags settled.runs (rise_from settled.runs order) in
    let idle : Idle q pool (placed_in settled.dags settled.runs) =
    rec_from (λ o. q o.run.number o.place ≡ true → holds_slots o.instance.state ≡ false) (placed_in settled.dags settled.runs) (λ k d inside is.
    let o : Placed = get_or (placed_in settled.dags settled.runs) k d in
    let exact = tick.queues.queueing.exact o (k, inside, get_or-same (placed_in settled.dags settled.runs) k o d inside) in
    let may : may_queue settled.dags o ≡ true = first_of (may_queue settled.dags o) (finds_room settled.dags settled.runs settled.pools q o) (sym exact ∙ is) in
    not_held o.instance.state (first_of (same_state o.instance.state task_state.Scheduled) (is_live settled.dags o.run) may)) in
    let sums = occupied_queued q pool settled.dags settled.runs idle in
    let fits = given_fits settled.dags settled.runs settled.pools q distinct tick.queues.queueing pool in
    let after : occupied new.dags new.runs pool ≡ occupied settled.dags (map (λ (run : Run). with_queued (q run.number) run) settled.runs) pool =
    ap (λ (s : StateRows). occupied s.dags s.runs pool) tick.ends ∙ occupied_finished t queued.dags queued.runs pool ∙ ap (λ (s : StateRows). occupied s.dags s.runs pool) tick.queues.state in
    let pools : slots_of new.pools pool ≡ slots_of settled.pools pool = ap (λ (s : StateRows). slots_of s.pools pool) tick.ends ∙ ap (λ (s : StateRows). slots_of s.pools pool) tick.queues.state in
    omega (arith, before, sums, fits, after, pools)
