-- A plan is a tick.
use Rattle.std.proofs.Common.{◌≡◌, ◌<◌, ◌+◌, ◌∙◌, ◌↔◌, ℕ, List, [], ◌∷◌, ◌++◌, length, map, get_or, refl, sym, ap, subst, arith, suc, Bool, true, false, cond}
use Rattle.std.specs.Prelude.{All, None, Some, Option, option_map, fold, not, is_none}
use Rattle.std.specs.Option.{option_map_or}
use Rattle.std.specs.List.Sorted.{IsStrictlySortedBy}
use Rattle.std.specs.Ordering.{nat_cmp}
use Rattle.std.specs.declared.cmp.Ordering.{Ordering}
use Rattle.std.specs.declared.cmp.Ordering.TheVariants.{Less, Equal, Greater}
use Rattle.std.specs.Cmp.Lexicographic.{slice_cmp, nat_list_cmp_total, nat_list_eq_equiv, texts_ties}
use Rattle.std.proofs.lemmas.Bool.{false≢true, true≢false}
use Rattle.std.proofs.lemmas.List.{append-nil, length-append, length_push}
use Rattle.std.proofs.lemmas.List.Elements.{All-nil, All-cons, All-push, length_all_zip}
use Rattle.std.proofs.Math.ListN.{length-map}
use Rattle.af_names.proofs.OrderLemmas.{find-only, search_alone}
use Rattle.af_graph.specs.Schedules.{is_scheduled}
use Rattle.af_graph.specs.declared.schedule.Schedule.{Schedule}
use Rattle.af_runs.specs.Instances.{new_instance}
use Rattle.af_runs.specs.Additions.{RunAdditions, together}
use Rattle.af_runs.specs.Runs.{AreRuns, RunRows, add_fault, queued_run, with_advanced}
use Rattle.af_runs.specs.declared.new_run.NewRun.{NewRun}
use Rattle.af_runs.specs.declared.run.Run.{Run}
use Rattle.af_runs.specs.declared.run_type.RunType.{RunType}
use Rattle.af_runs.specs.declared.run_type.RunType.TheVariants.{Scheduled}
use Rattle.af_runs.specs.Busy.{busy_of}
use Rattle.af_sched.specs.Create.{with_run, with_runs_of, runs_of_row, runs_due, point_run, moved_row, created}
use Rattle.af_sched.specs.Due.{taken_points}
use Rattle.af_sched.specs.Moves.{MovesOn}
use Rattle.af_sched.specs.Plan.{Fits, HasRows, IsPlan, applied, with_cursors}
use Rattle.af_sched.specs.Start.{started, started_runs}
use Rattle.af_sched.specs.State.{StateRows, AreRows, IsWhole, dag_of, is_of_id}
use Rattle.af_sched.specs.Steps.{TakesRunsOf, with_rows}
use Rattle.af_sched.specs.Tick.{IsTick}
use Rattle.af_sched.specs.declared.dag_row.DagRow.{DagRow}
use Rattle.af_sched.proofs.BusyLemmas.{advanced_fill, fill_all, frame_of, keeps_front, moves_all, order_front, same_from}
use Rattle.af_sched.proofs.FillLemmas.{fill}
use Rattle.af_sched.proofs.KeyLemmas.{AreRuns-keeps, Keeps, keeps_moved, key_of, whole_moved, numbers_same}
use Rattle.af_sched.proofs.LikeLemmas.{Alike, alike_with, moved_with, started_alike, settled_alike, queueing_alike, finished_alike}
use Rattle.af_sched.proofs.StartLemmas.{get_or-same}

-- ---- a DAG is found by its id
equal_itself : (o : Ordering) → o ≡ Rattle.std.specs.Ordering.ordering_reverse o → o ≡ Equal
equal_itself Less e = absurd (cc)
equal_itself Equal e = refl
equal_itself Greater e = absurd (cc)

id_of : DagRow → List ℕ
id_of row = row.dag.dag_id

pub found_row : (dags : List DagRow) → IsStrictlySortedBy (slice_cmp nat_cmp) (map (λ (row : DagRow). row.dag.dag_id) dags) → (k : ℕ) (d : DagRow) → k < length dags → dag_of dags (get_or dags k d).dag.dag_id ≡ Some (get_or dags k d)
found_row dags order k d inside =
    let id : List ℕ = (get_or dags k d).dag.dag_id in
    find-only (is_of_id id) dags k d inside
    (λ e. ap (λ (row : DagRow). is_of_id id row) (get_or-same dags k e d inside) ∙ nat_list_eq_equiv.refl id)
    (λ j e low apart. texts_ties (get_or dags j e).dag.dag_id id ∙ search_alone (λ (row : DagRow). row.dag.dag_id) nat_list_cmp_total id dags k order inside (λ f. ap (λ (row : DagRow). slice_cmp nat_cmp row.dag.dag_id id) (get_or-same dags k f d inside) ∙ equal_itself (slice_cmp nat_cmp id id) (nat_list_cmp_total.antisymm id id)) j e low apart)

-- ---- the runs that are added are whole
abbrev pub IsWholeFor : List DagRow → NewRun → Type 0
IsWholeFor dags new = option_map (λ row. length row.dag.tasks) (dag_of dags new.dag_id) ≡ Some (length new.instances)

module _ (dags : List DagRow) where
  whole_with : (b : Bool) (state : StateRows) (new : NewRun) → IsWholeFor dags new → All (IsWhole dags) state.runs → All (IsWhole dags) (cond b (record state { runs = state.runs ++ queued_run state.next_run new ∷ []; next_run = state.next_run + 1 }) state).runs
  whole_with true state new here whole = All-push (IsWhole dags) state.runs (queued_run state.next_run new) whole here
  whole_with false state new here whole = whole

  pub whole_fold : (news : List NewRun) (state : StateRows) → All (IsWholeFor dags) news → All (IsWhole dags) state.runs → All (IsWhole dags) (fold with_run state news).runs
  whole_fold [] state all whole = whole
  whole_fold (new ∷ news) state all whole =
      whole_fold news (with_run state new) (λ k d inside. all (suc k) d (omega arith))
      (whole_with (is_none (add_fault state.runs state.next_run new.dag_id new.run_id new.logical_date)) state new (all 0 new (omega arith)) whole)

  pub whole_due : (kind : RunType) (row : DagRow) (is_point : ℕ → Bool) (points : List ℕ) → dag_of dags row.dag.dag_id ≡ Some row → All (IsWholeFor dags) (map (point_run kind row.dag is_point) points)
  whole_due kind row is_point [] found = All-nil (IsWholeFor dags)
  whole_due kind row is_point (p ∷ points) found =
      All-cons (IsWholeFor dags) (point_run kind row.dag is_point p) (map (point_run kind row.dag is_point) points)
      (ap (option_map (λ (r : DagRow). length r.dag.tasks)) found ∙ ap Some (sym (length-map row.dag.tasks new_instance)))
      (whole_due kind row is_point points found)

  whole_of_row : (t : ℕ) (row : DagRow) → dag_of dags row.dag.dag_id ≡ Some row → All (IsWholeFor dags) (runs_of_row t row)
  whole_of_row t row found = by row.is_paused row.dag.schedule row.cursor
    where
      due : (schedule : Schedule) (cursor : Option ℕ) → All (IsWholeFor dags) (option_map_or (runs_due t row.dag (is_scheduled schedule)) cursor [])
      due schedule None = All-nil (IsWholeFor dags)
      due schedule (Some cursor) = whole_due Scheduled row (is_scheduled schedule) (taken_points row.dag.catchup (is_scheduled schedule) cursor t) found

      by : (b : Bool) (schedule : Option Schedule) (cursor : Option ℕ) → All (IsWholeFor dags) (cond b [] (option_map_or (λ s. option_map_or (runs_due t row.dag (is_scheduled s)) cursor []) schedule []))
      by true schedule cursor = All-nil (IsWholeFor dags)
      by false None cursor = All-nil (IsWholeFor dags)
      by false (Some schedule) cursor = due schedule cursor

  pub whole_rows : (t : ℕ) (rows : List DagRow) (state : StateRows) → All (λ row. dag_of dags row.dag.dag_id ≡ Some row) rows → All (IsWhole dags) state.runs → All (IsWhole dags) (fold (with_runs_of t) state rows).runs
  whole_rows t [] state all whole = whole
  whole_rows t (row ∷ rows) state all whole =
      whole_rows t rows (with_runs_of t state row) (λ k d inside. all (suc k) d (omega arith))
      (whole_fold (runs_of_row t row) state (whole_of_row t row (all 0 row (omega arith))) whole)

-- the runs after the first phase are whole
pub whole_created : (t : ℕ) (state : StateRows) (old new : RunRows) → AreRows state.dags state.runs → old.rows ≡ state.runs → TakesRunsOf t state.dags old new → All (IsWhole state.dags) new.rows
whole_created t state old new are same takes =
    subst (All (IsWhole state.dags)) (sym (ap (λ (s : StateRows). s.runs) (takes state)))
    (whole_rows state.dags t state.dags (with_rows state old) (found_row state.dags are.in_order) (subst (All (IsWhole state.dags)) (sym same) are.whole))

-- ---- each run that is added takes the next number
module _ (count next : ℕ) where
  abbrev Counted : StateRows → Type 0
  Counted state = length state.runs + next ≡ count + state.next_run

  counted_step : (b : Bool) (state : StateRows) (new : NewRun) → Counted state → Counted (cond b (record state { runs = state.runs ++ queued_run state.next_run new ∷ []; next_run = state.next_run + 1 }) state)
  counted_step true state new is = let long = length_push state.runs (queued_run state.next_run new) in omega (arith, is, long)
  counted_step false state new is = is

  counted_fold : (news : List NewRun) (state : StateRows) → Counted state → Counted (fold with_run state news)
  counted_fold [] state is = is
  counted_fold (new ∷ news) state is =
      counted_fold news (with_run state new) (counted_step (is_none (add_fault state.runs state.next_run new.dag_id new.run_id new.logical_date)) state new is)

  counted_rows : (t : ℕ) (rows : List DagRow) (state : StateRows) → Counted state → Counted (fold (with_runs_of t) state rows)
  counted_rows t [] state is = is
  counted_rows t (row ∷ rows) state is = counted_rows t rows (with_runs_of t state row) (counted_fold (runs_of_row t row) state is)

-- ---- the plan
-- what a tick at t on a state was worked out from: the additions to its runs before and after the first phase, and what the
-- others leave of the busy runs and of these
pub record Works (t : ℕ) (state : StateRows) (first last : RunAdditions) (cursors : List (Option ℕ)) (moved more : List Run) : Type 0 where
  pub rows : AreRows state.dags state.runs
  pub before : first.before ≡ state.runs
  pub none : first.added ≡ []
  pub next : first.next ≡ state.next_run
  pub stays : last.before ≡ state.runs
  pub takes : TakesRunsOf t state.dags (together first) (together last)
  pub kept : AreRuns (state.runs ++ last.added) last.next
  pub told : cursors ≡ map (λ row. (moved_row t row).cursor) state.dags
  pub moves : MovesOn t state.dags state.pools (busy_of state.runs ++ last.added) (moved ++ more)
  pub count : length moved ≡ length (busy_of state.runs)

module _ (t : ℕ) (state : StateRows) (first last : RunAdditions) (cursors : List (Option ℕ)) (moved more : List Run) (works : Works t state first last cursors moved more) where
  abbrev old : RunRows
  old = together first

  abbrev new : RunRows
  new = together last

  abbrev added : List Run
  added = last.added

  old_rows : first.before ++ first.added ≡ state.runs
  old_rows = (λ i. works.before i ++ works.none i) ∙ append-nil state.runs

  new_rows : last.before ++ last.added ≡ state.runs ++ last.added
  new_rows i = works.stays i ++ last.added

  all_move : MovesOn t state.dags state.pools (state.runs ++ added) (fold with_advanced state.runs moved ++ more)
  all_move = moves_all t state.dags state.pools state.runs added moved more works.kept.in_order works.count works.moves

  long : length cursors ≡ length state.dags
  long = ap length works.told ∙ length-map state.dags (λ row. (moved_row t row).cursor)

  moved_dags : with_cursors state.dags cursors ≡ map (moved_row t) state.dags
  moved_dags = ap (with_cursors state.dags) works.told ∙ moved_with t state.dags

  alike : Alike state.dags (map (moved_row t) state.dags)
  alike = subst (Alike state.dags) moved_dags (alike_with state.dags cursors long)

  all_whole : All (IsWhole state.dags) (state.runs ++ added)
  all_whole = subst (All (IsWhole state.dags)) new_rows (whole_created t state old new works.rows old_rows works.takes)

  made : created t state ≡ record state { dags = map (moved_row t) state.dags; runs = state.runs ++ added; next_run = last.next }
  made =
      let start : with_rows state old ≡ state = λ i. record state { runs = old_rows i; next_run = works.next i } in
      (λ i. record ((ap (λ (s : StateRows). fold (with_runs_of t) s state.dags) (sym start) ∙ sym (works.takes state)) i) { dags = map (moved_row t) state.dags })
      ∙ (λ i. record state { dags = map (moved_row t) state.dags; runs = new_rows i; next_run = last.next })

  all_counted : length (last.before ++ last.added) + state.next_run ≡ length state.runs + last.next
  all_counted =
      let start : length (first.before ++ first.added) + state.next_run ≡ length state.runs + first.next = (let long = ap length old_rows in let next = works.next in omega (arith, long, next)) in
      subst (Counted (length state.runs) state.next_run) (sym (works.takes state)) (counted_rows (length state.runs) state.next_run t state.dags (with_rows state old) start)

  plan_fits : (changes : Bool) → Fits (record { cursors = cursors; moved = moved; added = more; next_run = last.next; changes = changes }) state
  plan_fits changes = record {
    count = long;
    whole = whole_moved state.dags t state.pools (state.runs ++ added) (fold with_advanced state.runs moved ++ more) all_move all_whole;
    numbers = let counted = all_counted in let all = ap length new_rows ∙ length-append state.runs last.added in omega (arith, counted, all);
    kept = AreRuns-keeps (state.runs ++ added) (fold with_advanced state.runs moved ++ more) last.next (keeps_moved t state.dags state.pools (state.runs ++ added) (fold with_advanced state.runs moved ++ more) all_move) works.kept;
  }

  plan_ticks : (changes : Bool) → IsTick t state (applied (record { cursors = cursors; moved = moved; added = more; next_run = last.next; changes = changes }) state)
  plan_ticks changes =
      let dags : List DagRow = map (moved_row t) state.dags in
      let runs : List Run = state.runs ++ added in
      let settled : StateRows = record state { dags = dags; runs = all_move.settled; next_run = last.next } in
      let queued : StateRows = record state { dags = dags; runs = all_move.queued; next_run = last.next } in
      record {
        settled = settled;
        queued = queued;
        settles = subst (λ (s : StateRows). Rattle.af_sched.specs.Settle.Settles t (started t s) settled) (sym made)
            (record { runs = subst (λ (xs : List Run). Rattle.std.specs.List.AllZip (Rattle.af_sched.specs.Settle.SettlesIfLive t dags) xs all_move.settled) (sym (started_alike state.dags dags alike t runs)) (settled_alike state.dags dags alike t (started_runs t state.dags runs) all_move.settled all_move.settles); rest = refl });
        queues =
            let q = all_move.queues last.next state.variables in
            record {
              is_queued = q.is_queued;
              queueing = queueing_alike state.dags dags alike all_move.settled state.pools q.is_queued q.queueing;
              state = λ i. record settled { runs = (q.state i).runs };
            };
        ends = λ i. record state { dags = moved_dags i; runs = (all_move.ends ∙ sym (finished_alike state.dags dags alike t all_move.queued)) i; next_run = last.next };
      }

  keeps_busy : Keeps (busy_of state.runs) moved
  keeps_busy = keeps_front (busy_of state.runs) added moved more works.count (keeps_moved t state.dags state.pools (busy_of state.runs ++ added) (moved ++ more) works.moves)

  filled : fold with_advanced state.runs moved ++ more ≡ fill (frame_of state.runs) (moved ++ more)
  filled = advanced_fill state.runs moved more (order_front state.runs added works.kept.in_order) keeps_busy

  same_next : more ≡ [] → last.next ≡ state.next_run
  same_next none =
      let counted = all_counted in
      let busy : length (busy_of state.runs ++ last.added) ≡ length (moved ++ more) = length_all_zip (λ one other. key_of other ≡ key_of one) (busy_of state.runs ++ last.added) (moved ++ more) (keeps_moved t state.dags state.pools (busy_of state.runs ++ added) (moved ++ more) works.moves) in
      let old_busy = length-append (busy_of state.runs) last.added in
      let new_busy = length-append moved more in
      let all = ap length new_rows ∙ length-append state.runs last.added in
      let count = works.count in
      let no_more : length more ≡ 0 = ap length none in
      omega (arith, counted, busy, old_busy, new_busy, all, count, no_more)

  has : (changes : Bool) → applied (record { cursors = cursors; moved = moved; added = more; next_run = last.next; changes = changes }) state ≡ state → HasRows state cursors moved more
  has changes is =
      let same = same_from state.runs moved more keeps_busy (sym filled ∙ ap (λ (s : StateRows). s.runs) is) in
      (ap (λ (s : StateRows). s.dags) is, same.0, same.1)

  is_state : (changes : Bool) → HasRows state cursors moved more → applied (record { cursors = cursors; moved = moved; added = more; next_run = last.next; changes = changes }) state ≡ state
  is_state changes all =
      let runs : fold with_advanced state.runs moved ++ more ≡ state.runs = filled ∙ (λ i. fill (frame_of state.runs) (all.1 i ++ all.2 i)) ∙ fill_all state.runs [] ∙ append-nil state.runs in
      λ i. record state { dags = all.0 i; runs = runs i; next_run = same_next all.2 i }

  told_by : (b : Bool) → (b ≡ true) ↔ HasRows state cursors moved more → (not b ≡ false) ↔ (applied (record { cursors = cursors; moved = moved; added = more; next_run = last.next; changes = not b }) state ≡ state)
  told_by true tells = (λ _. is_state false (tells.0 refl), λ _. refl)
  told_by false tells = (λ wrong. absurd (true≢false wrong), λ is. absurd (false≢true (tells.1 (has true is))))

  pub plan_is : (same : Bool) → (same ≡ true) ↔ HasRows state cursors moved more → IsPlan t state (record { cursors = cursors; moved = moved; added = more; next_run = last.next; changes = not same })
  plan_is same tells = record { fits = plan_fits (not same); tick = plan_ticks (not same); busy = numbers_same (busy_of state.runs) moved keeps_busy; changed = told_by same tells }
