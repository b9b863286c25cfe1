-- A tick where nothing is due leaves the state as it was.
use Rattle.std.proofs.Common.{◌≡◌, ◌∙◌, ◌+◌, ℕ, List, [], ◌∷◌, map, fold, refl, sym, ap, subst, Bool, true, false, cond}
use Rattle.std.specs.Prelude.{All, MatchBool, Option, Some, None}
use Rattle.std.specs.List.{AllZip, enumerate_from}
use Rattle.std.specs.Option.{option_map_or}
use Rattle.std.proofs.lemmas.List.Elements.{All-head, All-tail}
use Rattle.af_graph.specs.Schedules.{is_scheduled}
use Rattle.af_graph.specs.declared.schedule.Schedule.{Schedule}
use Rattle.af_runs.specs.declared.instance.Instance.{Instance}
use Rattle.af_runs.specs.declared.run.Run.{Run}
use Rattle.af_sched.specs.Create.{created, cursor_due, moved_row, run_for, runs_due, runs_of_row, with_run, with_runs_of}
use Rattle.af_sched.specs.Due.{moved_cursor, taken_points}
use Rattle.af_sched.specs.Finish.{ends, finished, finished_run}
use Rattle.af_sched.specs.Laws.{NothingIsDue}
use Rattle.af_sched.specs.Queue.{queued_instance, with_queued}
use Rattle.af_sched.specs.Settle.{Settles, SettlesIfLive, SettlesInstances, SettlesRun, is_live}
use Rattle.af_sched.specs.Start.{started, started_run, started_runs, starts}
use Rattle.af_sched.specs.State.{StateRows, AreRows, tasks_of}
use Rattle.af_sched.specs.Tick.{IsTick}
use Rattle.af_sched.specs.declared.dag_row.DagRow.{DagRow}
use Rattle.af_sched.proofs.TickLemmas.{tick_is_one}

map_idle : {X : Type 0} (f : X → X) (xs : List X) → All (λ x. f x ≡ x) xs → map f xs ≡ xs
map_idle f [] all = refl
map_idle f (x ∷ xs) all = λ i. All-head (λ y. f y ≡ y) x xs all i ∷ map_idle f xs (All-tail (λ y. f y ≡ y) x xs all) i

-- ---- the first phase
none_due : (is_point : ℕ → Bool) (make : ℕ → Rattle.af_runs.specs.declared.new_run.NewRun.NewRun) (points : List ℕ) (cursor : ℕ) → map make points ≡ [] → moved_cursor is_point points cursor ≡ Some cursor
none_due is_point make [] cursor none = refl
none_due is_point make (p ∷ points) cursor none = absurd (cc)

row_idle : (t : ℕ) (row : DagRow) → runs_of_row t row ≡ [] → moved_row t row ≡ row
row_idle t row = by row.is_paused
  where
    at : (schedule : Option Schedule) (cursor : Option ℕ) → option_map_or (λ s. option_map_or (runs_due t row.dag (is_scheduled s)) cursor []) schedule [] ≡ [] → option_map_or (λ s. option_map_or (cursor_due t row.dag (is_scheduled s)) cursor None) schedule cursor ≡ cursor
    at None cursor none = refl
    at (Some schedule) None none = refl
    at (Some schedule) (Some cursor) none = none_due (is_scheduled schedule) (run_for row.dag (is_scheduled schedule)) (taken_points row.dag.catchup (is_scheduled schedule) cursor t) cursor none

    by : (b : Bool) → cond b [] (option_map_or (λ s. option_map_or (runs_due t row.dag (is_scheduled s)) row.cursor []) row.dag.schedule []) ≡ [] → cond b row (record row { cursor = option_map_or (λ s. option_map_or (cursor_due t row.dag (is_scheduled s)) row.cursor None) row.dag.schedule row.cursor }) ≡ row
    by true none = refl
    by false none = λ i. record row { cursor = at row.dag.schedule row.cursor none i }

fold_idle : (t : ℕ) (state : StateRows) (dags : List DagRow) → All (λ row. runs_of_row t row ≡ []) dags → fold (with_runs_of t) state dags ≡ state
fold_idle t state [] all = refl
fold_idle t state (row ∷ dags) all =
    ap (λ (news : List Rattle.af_runs.specs.declared.new_run.NewRun.NewRun). fold (with_runs_of t) (fold with_run state news) dags) (All-head (λ (r : DagRow). runs_of_row t r ≡ []) row dags all)
    ∙ fold_idle t state dags (All-tail (λ (r : DagRow). runs_of_row t r ≡ []) row dags all)

pub created_idle : (t : ℕ) (state : StateRows) → All (λ row. runs_of_row t row ≡ []) state.dags → created t state ≡ state
created_idle t state all =
    let rows : map (moved_row t) state.dags ≡ state.dags = map_idle (moved_row t) state.dags (λ k d inside. row_idle t _ (all k d inside)) in
    λ i. record (fold_idle t state state.dags all i) { dags = rows i }

-- ---- the other phases
started_idle : (t : ℕ) (state : StateRows) → All (λ run. starts state.dags state.runs run ≡ false) state.runs → started t state ≡ state
started_idle t state all =
    let runs : started_runs t state.dags state.runs ≡ state.runs =
    map_idle (λ run. cond (starts state.dags state.runs run) (started_run t run) run) state.runs (λ k d inside. rw (all k d inside) refl) in
    λ i. record state { runs = runs i }

settled_idle : (t : ℕ) (dags : List DagRow) (runs : List Run) → All (λ run. is_live dags run ≡ true → SettlesInstances t (tasks_of dags run.dag_id) run.instances run.instances) runs → AllZip (SettlesIfLive t dags) runs runs
settled_idle t dags [] all = tt
settled_idle t dags (run ∷ runs) all =
    (by (is_live dags run) (All-head (λ (r : Run). is_live dags r ≡ true → SettlesInstances t (tasks_of dags r.dag_id) r.instances r.instances) run runs all), settled_idle t dags runs (All-tail (λ (r : Run). is_live dags r ≡ true → SettlesInstances t (tasks_of dags r.dag_id) r.instances r.instances) run runs all))
  where
    by : (b : Bool) → (b ≡ true → SettlesInstances t (tasks_of dags run.dag_id) run.instances run.instances) → MatchBool b (SettlesRun t (tasks_of dags run.dag_id) run run) (run ≡ run)
    by true settles = record { instances = settles refl; rest = refl }
    by false settles = refl

queued_none : (instances : List Instance) (from : ℕ) → map (λ (row : ℕ × Instance). cond false (queued_instance row.1) row.1) (enumerate_from from instances) ≡ instances
queued_none [] from = refl
queued_none (x ∷ xs) from = λ i. x ∷ queued_none xs (from + 1) i

finished_idle : (t : ℕ) (state : StateRows) → All (λ run. ends run ≡ false) state.runs → finished t state ≡ state
finished_idle t state all =
    let runs = map_idle (λ run. finished_run t (tasks_of state.dags run.dag_id) run) state.runs (λ k d inside. rw (all k d inside) refl) in
    λ i. record state { runs = runs i }

idle_tick : (t : ℕ) (state : StateRows) → NothingIsDue t state → IsTick t state state
idle_tick t state due = record {
  settled = state;
  queued = state;
  settles =
      subst (λ (s : StateRows). Settles t s state) (sym (ap (started t) (created_idle t state due.creates_none) ∙ started_idle t state due.starts_none))
      (record { runs = settled_idle t state.dags state.runs due.settles_none; rest = refl });
  queues = record {
    is_queued = λ _ _. false;
    queueing = record { exact = λ placed has. sym (due.queues_none placed has) };
    state =
        let runs = map_idle (λ (run : Run). with_queued (λ _. false) run) state.runs (λ k d inside. λ i. record (Rattle.std.proofs.Common.get_or state.runs k d) { instances = queued_none (Rattle.std.proofs.Common.get_or state.runs k d).instances 0 i }) in
        λ i. record state { runs = sym runs i };
  };
  ends = sym (finished_idle t state due.ends_none);
}

pub idle_changes_nothing : (t : ℕ) (old new : StateRows) → AreRows old.dags old.runs → NothingIsDue t old → IsTick t old new → new ≡ old
idle_changes_nothing t old new are due tick = tick_is_one t old new old are tick (idle_tick t old due)
