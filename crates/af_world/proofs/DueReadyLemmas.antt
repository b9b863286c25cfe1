-- A state that is ready stays so where runs are created and started.
use Rattle.std.proofs.Common.{◌≡◌, ◌<◌, ◌+◌, ◌∙◌, ℕ, List, [], ◌∷◌, ◌++◌, length, map, get_or, refl, sym, ap, subst, arith, suc, Bool, true, false, cond}
use Rattle.std.specs.Prelude.{All, None, Some, Option, option_map, fold, is_none}
use Rattle.std.specs.Option.{option_map_or}
use Rattle.std.specs.List.Sorted.{IsStrictlySortedBy}
use Rattle.std.specs.declared.cmp.Ordering.{Ordering}
use Rattle.std.specs.declared.cmp.Ordering.TheVariants.{Less, Equal, Greater}
use Rattle.std.specs.Cmp.Lexicographic.{slice_cmp, nat_list_cmp_total, nat_list_eq_equiv, texts_ties}
use Rattle.std.specs.Ordering.{nat_cmp}
use Rattle.std.proofs.lemmas.List.Elements.{All-nil, All-cons}
use Rattle.std.proofs.Math.ListN.{length-map}
use Rattle.af_names.proofs.OrderLemmas.{find-only, search_alone}
use Rattle.af_graph.specs.Schedules.{is_scheduled}
use Rattle.af_graph.specs.declared.schedule.Schedule.{Schedule}
use Rattle.af_runs.specs.Instances.{new_instance}
use Rattle.af_runs.specs.Runs.{add_fault, queued_run}
use Rattle.af_runs.specs.declared.new_run.NewRun.{NewRun}
use Rattle.af_runs.specs.declared.run_type.RunType.{RunType}
use Rattle.af_runs.specs.declared.run_type.RunType.TheVariants.{Scheduled}
use Rattle.af_sched.specs.Create.{created, moved_row, point_run, runs_due, runs_of_row, with_run, with_runs_of}
use Rattle.af_sched.specs.Due.{taken_points}
use Rattle.af_sched.specs.Start.{started, started_run, starts}
use Rattle.af_sched.specs.State.{StateRows, dag_of, is_of_id}
use Rattle.af_sched.specs.declared.dag_row.DagRow.{DagRow}
use Rattle.af_sched.proofs.StartLemmas.{get_or-same}
use Rattle.af_world.specs.Ready.{IsReady}
use Rattle.af_world.proofs.ReadyLemmas.{ready_dags, ready_more, ready_runs, some_in_place}

-- ---- a DAG is found by its id

equal_itself : (o : Ordering) → o ≡ Rattle.std.specs.Ordering.ordering_reverse o → o ≡ Equal
equal_itself Less e = absurd (cc)
equal_itself Equal e = refl
equal_itself Greater e = absurd (cc)

found_row : (dags : List DagRow) → IsStrictlySortedBy (slice_cmp nat_cmp) (map (λ (row : DagRow). row.dag.dag_id) dags) → (k : ℕ) (d : DagRow) → k < length dags → dag_of dags (get_or dags k d).dag.dag_id ≡ Some (get_or dags k d)
found_row dags order k d inside =
    let id : List ℕ = (get_or dags k d).dag.dag_id in
    find-only (is_of_id id) dags k d inside
    (λ e. ap (λ (row : DagRow). is_of_id id row) (get_or-same dags k e d inside) ∙ nat_list_eq_equiv.refl id)
    (λ j e low apart. texts_ties (get_or dags j e).dag.dag_id id ∙ search_alone (λ (row : DagRow). row.dag.dag_id) nat_list_cmp_total id dags k order inside (λ f. ap (λ (row : DagRow). slice_cmp nat_cmp row.dag.dag_id id) (get_or-same dags k f d inside) ∙ equal_itself (slice_cmp nat_cmp id id) (nat_list_cmp_total.antisymm id id)) j e low apart)

-- ---- the runs that are due are added

module _ (dags : List DagRow) where
  -- it has an instance for each task of its DAG
  abbrev pub IsWholeFor : NewRun → Type 0
  IsWholeFor new = option_map (λ (row : DagRow). length row.dag.tasks) (dag_of dags new.dag_id) ≡ Some (length new.instances)

  -- a state over these DAGs
  abbrev pub IsOver : StateRows → Type 0
  IsOver state = IsReady state × (state.dags ≡ dags)

  same_dags : (b : Bool) (state : StateRows) (new : NewRun) → (cond b (record state { runs = state.runs ++ queued_run state.next_run new ∷ []; next_run = state.next_run + 1 }) state).dags ≡ state.dags
  same_dags true state new = refl
  same_dags false state new = refl

  with_one : (state : StateRows) (new : NewRun) → IsWholeFor new → IsOver state → IsOver (with_run state new)
  with_one state new whole is = (
    ready_more state new (ap (λ (rows : List DagRow). option_map (λ (row : DagRow). length row.dag.tasks) (dag_of rows new.dag_id)) is.1 ∙ whole) is.0,
    same_dags (is_none (add_fault state.runs state.next_run new.dag_id new.run_id new.logical_date)) state new ∙ is.1,
  )

  pub with_all : (news : List NewRun) (state : StateRows) → All IsWholeFor news → IsOver state → IsOver (fold with_run state news)
  with_all [] state all is = is
  with_all (new ∷ news) state all is =
      with_all news (with_run state new) (λ k d inside. all (suc k) d (omega arith)) (with_one state new (all 0 new (omega arith)) is)

  pub whole_due : (kind : RunType) (row : DagRow) (is_point : ℕ → Bool) (points : List ℕ) → dag_of dags row.dag.dag_id ≡ Some row → All IsWholeFor (map (point_run kind row.dag is_point) points)
  whole_due kind row is_point [] found = All-nil IsWholeFor
  whole_due kind row is_point (p ∷ points) found =
      All-cons IsWholeFor (point_run kind row.dag is_point p) (map (point_run kind row.dag is_point) points)
      (ap (option_map (λ (r : DagRow). length r.dag.tasks)) found ∙ ap Some (sym (length-map row.dag.tasks new_instance)))
      (whole_due kind row is_point points found)

  whole_of_row : (t : ℕ) (row : DagRow) → dag_of dags row.dag.dag_id ≡ Some row → All IsWholeFor (runs_of_row t row)
  whole_of_row t row found = by row.is_paused row.dag.schedule row.cursor
    where
      due : (schedule : Schedule) (cursor : Option ℕ) → All IsWholeFor (option_map_or (runs_due t row.dag (is_scheduled schedule)) cursor [])
      due schedule None = All-nil IsWholeFor
      due schedule (Some cursor) = whole_due Scheduled row (is_scheduled schedule) (taken_points row.dag.catchup (is_scheduled schedule) cursor t) found

      by : (b : Bool) (schedule : Option Schedule) (cursor : Option ℕ) → All IsWholeFor (cond b [] (option_map_or (λ s. option_map_or (runs_due t row.dag (is_scheduled s)) cursor []) schedule []))
      by true schedule cursor = All-nil IsWholeFor
      by false None cursor = All-nil IsWholeFor
      by false (Some schedule) cursor = due schedule cursor

  with_rows : (t : ℕ) (rows : List DagRow) (state : StateRows) → All (λ row. dag_of dags row.dag.dag_id ≡ Some row) rows → IsOver state → IsOver (fold (with_runs_of t) state rows)
  with_rows t [] state all is = is
  with_rows t (row ∷ rows) state all is =
      with_rows t rows (with_runs_of t state row) (λ k d inside. all (suc k) d (omega arith))
      (with_all (runs_of_row t row) state (whole_of_row t row (all 0 row (omega arith))) is)

-- ---- the phases

moved_same : (t : ℕ) (row : DagRow) → (moved_row t row).dag ≡ row.dag
moved_same t row = by row.is_paused
  where
    by : (b : Bool) → (cond b row (record row { cursor = option_map_or (λ schedule. option_map_or (Rattle.af_sched.specs.Create.cursor_due t row.dag (is_scheduled schedule)) row.cursor None) row.dag.schedule row.cursor })).dag ≡ row.dag
    by true = refl
    by false = refl

pub created_ready : (t : ℕ) (state : StateRows) → IsReady state → IsReady (created t state)
created_ready t state ready =
    let more : StateRows = fold (with_runs_of t) state state.dags in
    let over = with_rows state.dags t state.dags state (found_row state.dags ready.is.rows.in_order) (ready, refl) in
    subst (λ (rows : List DagRow). IsReady (record more { dags = map (moved_row t) rows })) over.1 (ready_dags more (moved_row t) (moved_same t) over.0)

pub started_ready : (t : ℕ) (state : StateRows) → IsReady state → IsReady (started t state)
started_ready t state ready =
    ready_runs state (λ run. cond (starts state.dags state.runs run) (started_run t run) run)
    (some_in_place (starts state.dags state.runs) (started_run t) (record { key = λ run. refl; long = λ run. refl })) ready
