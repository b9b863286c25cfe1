-- Where a tick leaves the state as it was, nothing was due; and where nothing is due, it leaves it so.
use Rattle.std.proofs.Common.{◌≡◌, ◌↔◌, ◌<◌, ◌+◌, ◌∙◌, ℕ, List, [], ◌∷◌, length, map, get_or, refl, sym, ap, subst, arith, zero, suc, Bool, true, false, cond, ◌&&◌, ⊎_elim, Option, Some, None}
use Rattle.std.specs.Prelude.{All, Contains, MatchBool, nat_le, zip}
use Rattle.std.specs.List.{AllZip, enumerate_from}
use Rattle.std.specs.Option.{option_map_or}
use Rattle.std.proofs.lemmas.Bool.{cases_Bool, false≢true}
use Rattle.std.proofs.lemmas.List.Elements.{All-cons, AllZip-get_or, Contains-append_cases}
use Rattle.std.proofs.lemmas.Slice.Zip.{AllZip-long}
use Rattle.af_graph.specs.Graph.{same_name}
use Rattle.af_graph.specs.Schedules.{is_scheduled}
use Rattle.af_graph.specs.States.{same_state}
use Rattle.af_graph.specs.declared.schedule.Schedule.{Schedule}
use Rattle.af_graph.specs.declared.task_spec.TaskSpec.{TaskSpec}
use Rattle.af_graph.specs.declared.task_state.TaskState.TheVariants as task_state
use Rattle.af_pool.specs.Occupants.{slots_of_all}
use Rattle.af_pool.specs.Pools.{slots_of}
use Rattle.af_pool.specs.declared.pool.Pool.{Pool}
use Rattle.af_runs.specs.Runs.{is_finished}
use Rattle.af_runs.specs.declared.instance.Instance.{Instance}
use Rattle.af_runs.specs.declared.run.Run.{Run}
use Rattle.af_runs.specs.declared.run_state.RunState.TheVariants as run_state
use Rattle.af_sched.specs.Create.{cursor_due, moved_row, run_for, runs_due, runs_of_row}
use Rattle.af_sched.specs.Finish.{end_state, ended_run, ends, finished, finished_run, some_leaf_failed}
use Rattle.af_sched.specs.Laws.{NothingIsDue}
use Rattle.af_sched.specs.Placed.{Placed, placed_in, placed_of, comes_before}
use Rattle.af_sched.specs.Queue.{IsQueueing, Queues, finds_room, may_queue, occupant_of, occupied, queued_instance, with_queued}
use Rattle.af_sched.specs.Settle.{Settles, SettlesIfLive, SettlesInstances, SettlesRun, is_live, settled_instance, verdict_at}
use Rattle.af_sched.specs.Start.{started, started_run, starts}
use Rattle.af_sched.specs.State.{StateRows, AreRows, IsWhole, tasks_of}
use Rattle.af_sched.specs.Tick.{IsTick}
use Rattle.af_sched.specs.declared.dag_row.DagRow.{DagRow}
use Rattle.af_sched.proofs.EndedLemmas.{starts_no_ended, ends_no_ended}
use Rattle.af_sched.proofs.IdleLemmas.{created_idle, idle_changes_nothing}
use Rattle.af_sched.proofs.PlacedLemmas.{get_or-placed_of}
use Rattle.af_sched.proofs.QueueLemmas.{filter-agree, member_at, rows_long, contains_flat}
use Rattle.af_sched.proofs.SeatLemmas.{queued_at, queued_at-none}
use Rattle.af_sched.proofs.SettleLemmas.{tasks_long}
use Rattle.af_sched.proofs.StartLemmas.{get_or-same}
use Rattle.af_sched.proofs.TakenLemmas.{taken_none}
use Rattle.af_sched.proofs.TickLemmas.{rows_settled, rows_started}

-- ---- the first phase: a row that stays had no run due
map_still : {X : Type 0} (f : X → X) (xs : List X) → map f xs ≡ xs → All (λ x. f x ≡ x) xs
map_still f [] same = λ k d inside. absurd (omega arith)
map_still f (x ∷ xs) same =
    let here : f x ≡ x = cc in
    let rest : map f xs ≡ xs = cc in
    All-cons (λ y. f y ≡ y) x xs here (map_still f xs rest)

row_still : (t : ℕ) (row : DagRow) → moved_row t row ≡ row → runs_of_row t row ≡ []
row_still t row = by row.is_paused
  where
    at : (schedule : Option Schedule) (cursor : Option ℕ) → option_map_or (λ s. option_map_or (cursor_due t row.dag (is_scheduled s)) cursor None) schedule cursor ≡ cursor → option_map_or (λ s. option_map_or (runs_due t row.dag (is_scheduled s)) cursor []) schedule [] ≡ []
    at None cursor same = refl
    at (Some schedule) None same = refl
    at (Some schedule) (Some cursor) same =
        ap (map (run_for row.dag (is_scheduled schedule))) (taken_none row.dag.catchup (is_scheduled schedule) cursor t same)

    by : (b : Bool) → cond b row (record row { cursor = option_map_or (λ s. option_map_or (cursor_due t row.dag (is_scheduled s)) row.cursor None) row.dag.schedule row.cursor }) ≡ row → cond b [] (option_map_or (λ s. option_map_or (runs_due t row.dag (is_scheduled s)) row.cursor []) row.dag.schedule []) ≡ []
    by true same = refl
    by false same = at row.dag.schedule row.cursor (ap (λ (r : DagRow). r.cursor) same)

rows_still : (t : ℕ) (old : StateRows) → IsTick t old old → All (λ row. runs_of_row t row ≡ []) old.dags
rows_still t old tick =
    let dags : old.dags ≡ map (moved_row t) old.dags =
    ap (λ (s : StateRows). s.dags) tick.ends ∙ ap (λ (s : StateRows). s.dags) tick.queues.state ∙ ap (λ (s : StateRows). s.dags) tick.settles.rest in
    λ k d inside. row_still t (get_or old.dags k d) (map_still (moved_row t) old.dags (sym dags) k d inside)

-- ---- run by run: none starts, and none ends
-- a run before a tick that leaves it as it was, and the same run after the third phase
record Kept (t : ℕ) (dags : List DagRow) (runs : List Run) (q : ℕ → ℕ → Bool) (old later : Run) : Type 0 where
  no_start : starts dags runs old ≡ false
  settles : SettlesIfLive t dags old later
  queued : with_queued (q later.number) later ≡ old
  no_end : ends old ≡ false

ended_finished : (tasks : List TaskSpec) (instances : List Instance) → is_finished (end_state tasks instances) ≡ true
ended_finished tasks instances = by (some_leaf_failed tasks instances)
  where
    by : (b : Bool) → is_finished (cond b run_state.Failed run_state.Success) ≡ true
    by true = refl
    by false = refl

module _ (t : ℕ) (dags : List DagRow) (runs : List Run) (q : ℕ → ℕ → Bool) where
  -- settling keeps the states of runs
  state_settled : (old later : Run) → SettlesIfLive t dags old later → later.state ≡ old.state
  state_settled old later = by (is_live dags old)
    where
      by : (b : Bool) → MatchBool b (SettlesRun t (tasks_of dags old.dag_id) old later) (later ≡ old) → later.state ≡ old.state
      by true settles = ap (λ (run : Run). run.state) settles.rest
      by false same = ap (λ (run : Run). run.state) same

  -- a run that started or ended would be in another state
  kept : (tasks : List TaskSpec) (old later : Run) → SettlesIfLive t dags (cond (starts dags runs old) (started_run t old) old) later → finished_run t tasks (with_queued (q later.number) later) ≡ old → Kept t dags runs q old later
  kept tasks old later = by (starts dags runs old) (ends queued) refl refl
    where
      queued : Run
      queued = with_queued (q later.number) later

      -- a run that ends has ended
      ended : ended_run t tasks queued ≡ old → is_finished old.state ≡ true
      ended same = ap (λ (run : Run). is_finished run.state) (sym same) ∙ ended_finished tasks queued.instances

      by : (b e : Bool) → starts dags runs old ≡ b → ends queued ≡ e → SettlesIfLive t dags (cond b (started_run t old) old) later → cond e (ended_run t tasks queued) queued ≡ old → Kept t dags runs q old later
      by true true start end settles same = absurd (false≢true (sym (starts_no_ended dags runs old (ended same)) ∙ start))
      by false true start end settles same =
          absurd (false≢true (sym (ends_no_ended queued (ap is_finished (state_settled old later settles) ∙ ended same)) ∙ end))
      by true false start end settles same =
          let running : old.state ≡ run_state.Running = ap (λ (run : Run). run.state) (sym same) ∙ state_settled (started_run t old) later settles in
          let not : starts dags runs old ≡ false = rw running refl in
          absurd (false≢true (sym not ∙ start))
      by false false start end settles same = record { no_start = start; settles = settles; queued = same; no_end = sym (ap ends same) ∙ end }

  kept_all : (tasks : Run → List TaskSpec) (xs ys : List Run) → AllZip (SettlesIfLive t dags) (map (λ run. cond (starts dags runs run) (started_run t run) run) xs) ys → map (λ run. finished_run t (tasks run) run) (map (λ run. with_queued (q run.number) run) ys) ≡ xs → AllZip (Kept t dags runs q) xs ys
  kept_all tasks [] [] settles same = tt
  kept_all tasks [] (y ∷ ys) settles same = absurd settles
  kept_all tasks (x ∷ xs) [] settles same = absurd settles
  kept_all tasks (x ∷ xs) (y ∷ ys) settles same =
      let queued : Run = with_queued (q y.number) y in
      let here : finished_run t (tasks queued) queued ≡ x = cc in
      let rest : map (λ run. finished_run t (tasks run) run) (map (λ run. with_queued (q run.number) run) ys) ≡ xs = cc in
      (kept (tasks queued) x y settles.0 here, kept_all tasks xs ys settles.1 rest)

-- ---- instance by instance
-- no instance of the runs is queued
abbrev NoneQueued : (ℕ → ℕ → Bool) → List Run → Type 0
NoneQueued q runs =
    (k : ℕ) (d : Run) (place : ℕ) → k < length runs → place < length (get_or runs k d).instances → q (get_or runs k d).number place ≡ false

none_first : (q : ℕ → ℕ → Bool) (run : Run) (runs : List Run) → NoneQueued q (run ∷ runs) → (i : ℕ) → i < length run.instances → q run.number (0 + i) ≡ false
none_first q run runs none i within =
    let at : i ≡ 0 + i = omega arith in subst (λ (n : ℕ). q run.number n ≡ false) at (none 0 run i (omega arith) within)

none_rest : (q : ℕ → ℕ → Bool) (run : Run) (runs : List Run) → NoneQueued q (run ∷ runs) → NoneQueued q runs
none_rest q run runs none k d place inside within = none (suc k) d place (omega arith) within

queued_at-get : (q : ℕ → Bool) (n i : ℕ) (xs : List Instance) (d : Instance) → i < length xs → get_or (queued_at q n xs) i d ≡ cond (q (n + i)) (queued_instance (get_or xs i d)) (get_or xs i d)
queued_at-get q n i [] d inside = absurd (omega arith)
queued_at-get q n zero (x ∷ xs) d inside =
    let at : n ≡ n + 0 = omega arith in ap (λ (k : ℕ). cond (q k) (queued_instance x) x) at
queued_at-get q n (suc i) (x ∷ xs) d inside =
    let at : n + 1 + i ≡ n + suc i = omega arith in
    queued_at-get q (n + 1) i xs d (omega arith) ∙ ap (λ (k : ℕ). cond (q k) (queued_instance (get_or xs i d)) (get_or xs i d)) at

both : (a b : Bool) → (a && b) ≡ true → (a ≡ true) × (b ≡ true)
both true b is = (refl, is)
both false b is = absurd (false≢true is)

-- were an instance queued, it would be queued before the tick, and settled as it is, and so not be scheduled
module _ (t : ℕ) (dags : List DagRow) (runs : List Run) (q : ℕ → ℕ → Bool) (old later : Run) (stays : Kept t dags runs q old later) (place : ℕ) (d : Instance) (within : place < length later.instances) (chosen : q later.number place ≡ true) where
  was_queued : get_or old.instances place d ≡ queued_instance (get_or later.instances place d)
  was_queued =
      let at : 0 + place ≡ place = omega arith in
      ap (λ (run : Run). get_or run.instances place d) (sym stays.queued)
      ∙ queued_at-get (q later.number) 0 place later.instances d within
      ∙ ap (λ (b : Bool). cond b (queued_instance (get_or later.instances place d)) (get_or later.instances place d)) (ap (q later.number) at ∙ chosen)

  is_queued : (get_or later.instances place d).state ≡ task_state.Queued
  is_queued = by (is_live dags old) stays.settles
    where
      by : (b : Bool) → MatchBool b (SettlesRun t (tasks_of dags old.dag_id) old later) (later ≡ old) → (get_or later.instances place d).state ≡ task_state.Queued
      by true settles =
          let inside : place < length old.instances = omega (arith, settles.instances.count) in
          ap (λ (x : Instance). x.state) (settles.instances.each place d inside ∙ ap (settled_instance t (verdict_at (tasks_of dags old.dag_id) later.instances place)) was_queued)
      by false same = ap (λ (run : Run). (get_or run.instances place d).state) same ∙ ap (λ (x : Instance). x.state) was_queued

  not_scheduled : same_state (get_or later.instances place d).state task_state.Scheduled ≡ true → ⊥
  not_scheduled is = false≢true (sym (ap (λ state. same_state state task_state.Scheduled) is_queued) ∙ is)

-- so none is
module _ (t : ℕ) (dags : List DagRow) (runs : List Run) (pools : List Pool) (q : ℕ → ℕ → Bool) (xs ys : List Run) (all : AllZip (Kept t dags runs q) xs ys) (queueing : IsQueueing dags ys pools q) (whole : All (IsWhole dags) ys) where
  none_at : NoneQueued q ys
  none_at k d place inside within =
      let run : Run = get_or ys k d in
      let tasks : List TaskSpec = tasks_of dags run.dag_id in
      let first : place < length tasks = omega (arith, tasks_long dags run.dag_id (length run.instances) (whole k d inside), within) in
      let found = member_at (placed_of tasks run) place (rows_long run 0 tasks run.instances place first within) in
      let instance : Instance = found.0.instance in
      let is : found.0 ≡ record { run = run; place = place; task = get_or tasks place found.0.task; instance = get_or run.instances place instance } =
      sym (found.2 found.0) ∙ get_or-placed_of tasks run place found.0 found.0.task instance first within in
      let has : Contains (placed_in dags ys) found.0 = contains_flat (λ (r : Run). placed_of (tasks_of dags r.dag_id) r) ys k d found.0 inside found.1 in
      let one : Kept t dags runs q (get_or xs k d) run = AllZip-get_or (Kept t dags runs q) xs ys k d d all (omega (arith, AllZip-long (Kept t dags runs q) xs ys all)) in
      ⊎_elim
      (λ (chosen : q run.number place ≡ true).
      let exact = sym (queueing.exact found.0 has) ∙ ap (λ (p : Placed). q p.run.number p.place) is ∙ chosen in
      let scheduled = (both (same_state instance.state task_state.Scheduled) (is_live dags found.0.run) (both (may_queue dags found.0) (finds_room dags ys pools q found.0) exact).0).0 in
      absurd (not_scheduled t dags runs q (get_or xs k d) run one place instance within chosen (ap (λ (p : Placed). same_state p.instance.state task_state.Scheduled) (sym is) ∙ scheduled)))
      (λ (not : q run.number place ≡ false). not)
      (cases_Bool (q run.number place))

-- where no instance is queued, the runs after the third phase are those before the tick
same_runs : (t : ℕ) (dags : List DagRow) (runs : List Run) (q : ℕ → ℕ → Bool) (xs ys : List Run) → AllZip (Kept t dags runs q) xs ys → NoneQueued q ys → ys ≡ xs
same_runs t dags runs q [] [] all none = refl
same_runs t dags runs q [] (y ∷ ys) all none = absurd all
same_runs t dags runs q (x ∷ xs) [] all none = absurd all
same_runs t dags runs q (x ∷ xs) (y ∷ ys) all none =
    let instances : queued_at (q y.number) 0 y.instances ≡ y.instances = queued_at-none (q y.number) 0 y.instances (none_first q y ys none) in
    let here : y ≡ x = ap (λ (zs : List Instance). record y { instances = zs }) (sym instances) ∙ all.0.queued in
    let rest : ys ≡ xs = same_runs t dags runs q xs ys all.1 (none_rest q y ys none) in
    cc

-- where no instance of the runs is queued, none is among those with their tasks
module _ (q : ℕ → ℕ → Bool) where
  rows_none : (run : Run) (n : ℕ) (tasks : List TaskSpec) (instances : List Instance) → ((i : ℕ) → i < length instances → q run.number (n + i) ≡ false) → (placed : Placed) → Contains (map (λ row. record { run = run; place = row.0; task = row.1.0; instance = row.1.1 }) (enumerate_from n (zip tasks instances))) placed → q placed.run.number placed.place ≡ false
  rows_none run n [] instances none placed has = absurd (omega (arith, has.1))
  rows_none run n (task ∷ tasks) [] none placed has = absurd (omega (arith, has.1))
  rows_none run n (task ∷ tasks) (x ∷ xs) none placed (zero, low, is) =
      let at : n + 0 ≡ n = omega arith in
      ap (λ (p : Placed). q p.run.number p.place) (sym is) ∙ subst (λ (m : ℕ). q run.number m ≡ false) at (none 0 (omega arith))
  rows_none run n (task ∷ tasks) (x ∷ xs) none placed (suc k, low, is) =
      rows_none run (n + 1) tasks xs (λ i within. let at : n + suc i ≡ n + 1 + i = omega arith in subst (λ (m : ℕ). q run.number m ≡ false) at (none (suc i) (omega arith))) placed (k, omega arith, is)

  placed_none : (dags : List DagRow) (ys : List Run) → NoneQueued q ys → (placed : Placed) → Contains (placed_in dags ys) placed → q placed.run.number placed.place ≡ false
  placed_none dags [] none placed has = absurd (omega (arith, has.1))
  placed_none dags (y ∷ ys) none placed has =
      ⊎_elim
      (rows_none y 0 (tasks_of dags y.dag_id) y.instances (none_first q y ys none) placed)
      (placed_none dags ys (none_rest q y ys none) placed)
      (Contains-append_cases (placed_of (tasks_of dags y.dag_id) y) (placed_in dags ys) placed has)

  -- and what finds room is what finds it with none queued before it
  room_none : (dags : List DagRow) (ys : List Run) (pools : List Pool) → ((placed : Placed) → Contains (placed_in dags ys) placed → q placed.run.number placed.place ≡ false) → (placed : Placed) → finds_room dags ys pools q placed ≡ finds_room dags ys pools (λ _ _. false) placed
  room_none dags ys pools none placed =
      let all : List Placed = placed_in dags ys in
      let same = filter-agree (λ o. q o.run.number o.place && same_name o.task.pool placed.task.pool && comes_before o placed) (λ o. false) all (λ k d inside. ap (λ (b : Bool). b && same_name (get_or all k d).task.pool placed.task.pool && comes_before (get_or all k d) placed) (none (get_or all k d) (k, inside, get_or-same all k (get_or all k d) d inside))) in
      ap (λ (others : List Placed). nat_le (placed.task.pool_slots + occupied dags ys placed.task.pool + slots_of_all (map occupant_of others)) (slots_of pools placed.task.pool)) same

-- ---- the tick
-- where the first phase leaves the state, a tick that leaves it had nothing due
module _ (t : ℕ) (old settled queued : StateRows) (are : AreRows old.dags old.runs) (creates : All (λ row. runs_of_row t row ≡ []) old.dags) (settles : Settles t (started t old) settled) (queues : Queues settled queued) (stays : old ≡ finished t queued) where
  abbrev q : ℕ → ℕ → Bool
  q = queues.is_queued

  dags : settled.dags ≡ old.dags
  dags = ap (λ (s : StateRows). s.dags) settles.rest

  all_kept : AllZip (Kept t old.dags old.runs q) old.runs settled.runs
  all_kept =
      kept_all t old.dags old.runs q (λ run. tasks_of queued.dags run.dag_id) old.runs settled.runs settles.runs
      (ap (λ (s : StateRows). map (λ run. finished_run t (tasks_of queued.dags run.dag_id) run) s.runs) (sym queues.state) ∙ ap (λ (s : StateRows). s.runs) (sym stays))

  none : NoneQueued q settled.runs
  none =
      none_at t old.dags old.runs settled.pools q old.runs settled.runs all_kept
      (subst (λ (rows : List DagRow). IsQueueing rows settled.runs settled.pools q) dags queues.queueing)
      (subst (λ (rows : List DagRow). All (IsWhole rows) settled.runs) dags (rows_settled t (started t old) settled (rows_started t old are) settles).whole)

  runs : settled.runs ≡ old.runs
  runs = same_runs t old.dags old.runs q old.runs settled.runs all_kept none

  same : settled ≡ old
  same = settles.rest ∙ ap (λ (rows : List Run). record old { runs = rows }) runs

  kept_at : (k : ℕ) (d : Run) → k < length old.runs → Kept t old.dags old.runs q (get_or old.runs k d) (get_or old.runs k d)
  kept_at k d inside =
      AllZip-get_or (Kept t old.dags old.runs q) old.runs old.runs k d d (subst (AllZip (Kept t old.dags old.runs q) old.runs) runs all_kept) inside

  settled_still : (run : Run) → SettlesIfLive t old.dags run run → is_live old.dags run ≡ true → SettlesInstances t (tasks_of old.dags run.dag_id) run.instances run.instances
  settled_still run settled_run live =
      let is : SettlesRun t (tasks_of old.dags run.dag_id) run run = subst (λ (b : Bool). MatchBool b (SettlesRun t (tasks_of old.dags run.dag_id) run run) (run ≡ run)) live settled_run in is.instances

  none_queued : (placed : Placed) → Contains (placed_in old.dags old.runs) placed → (may_queue old.dags placed && finds_room old.dags old.runs old.pools (λ _ _. false) placed) ≡ false
  none_queued placed has =
      let not = placed_none q settled.dags settled.runs none in
      let there : Contains (placed_in settled.dags settled.runs) placed = subst (λ (s : StateRows). Contains (placed_in s.dags s.runs) placed) (sym same) has in
      ap (λ (s : StateRows). may_queue s.dags placed && finds_room s.dags s.runs s.pools (λ _ _. false) placed) (sym same)
      ∙ ap (λ (b : Bool). may_queue settled.dags placed && b) (sym (room_none q settled.dags settled.runs settled.pools not placed))
      ∙ sym (queues.queueing.exact placed there)
      ∙ not placed there

  idle : NothingIsDue t old
  idle = record {
    creates_none = creates;
    starts_none = λ k d inside. (kept_at k d inside).no_start;
    settles_none = λ k d inside. settled_still (get_or old.runs k d) (kept_at k d inside).settles;
    queues_none = none_queued;
    ends_none = λ k d inside. (kept_at k d inside).no_end;
  }

still_is_idle : (t : ℕ) (old : StateRows) → AreRows old.dags old.runs → IsTick t old old → NothingIsDue t old
still_is_idle t old are tick =
    let creates = rows_still t old tick in
    idle t old tick.settled tick.queued are creates (subst (λ (s : StateRows). Settles t (started t s) tick.settled) (created_idle t old creates) tick.settles) tick.queues tick.ends

pub still_exactly_where_idle : (t : ℕ) (old new : StateRows) → AreRows old.dags old.runs → IsTick t old new → NothingIsDue t old ↔ (new ≡ old)
still_exactly_where_idle t old new are tick =
    (λ due. idle_changes_nothing t old new are due tick, λ same. still_is_idle t old are (subst (IsTick t old) same tick))
