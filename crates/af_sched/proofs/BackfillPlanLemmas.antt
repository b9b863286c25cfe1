-- The plan of a backfill leaves what the backfill does.
use Rattle.std.proofs.Common.{◌≡◌, ◌∙◌, ◌↔◌, ◌≤◌, ◌++◌, ◌==◌, ℕ, List, [], ◌∷◌, length, map, refl, sym, ap, subst, arith, suc, Bool, true, false}
use Rattle.std.specs.Prelude.{All, fold, not, Option, None, Some}
use Rattle.std.specs.Option.{option_map_or}
use Rattle.std.proofs.lemmas.Bool.{true≢false}
use Rattle.std.proofs.lemmas.Bool.Decides.{nat_tests}
use Rattle.std.proofs.lemmas.List.{append-nil}
use Rattle.std.proofs.lemmas.List.Elements.{All-nil}
use Rattle.std.proofs.Math.ListN.{length-map}
use Rattle.af_graph.specs.Schedules.{is_scheduled}
use Rattle.af_graph.specs.declared.schedule.Schedule.{Schedule}
use Rattle.af_runs.specs.Additions.{RunAdditions, together}
use Rattle.af_runs.specs.Runs.{AreRuns}
use Rattle.af_runs.specs.declared.new_run.NewRun.{NewRun}
use Rattle.af_runs.specs.declared.run.Run.{Run}
use Rattle.af_runs.specs.declared.run_type.RunType.TheVariants.{Backfill}
use Rattle.af_sched.specs.Backfills.{backfill_of, backfill_of_row, backfill_runs, points_within}
use Rattle.af_sched.specs.Create.{with_run}
use Rattle.af_sched.specs.Plan.{Fits, PlanRows, applied, with_cursors}
use Rattle.af_sched.specs.State.{StateRows, AreRows, IsWhole, dag_of, is_of_id}
use Rattle.af_sched.specs.Steps.{TakesRuns, with_rows}
use Rattle.af_sched.specs.declared.dag_row.DagRow.{DagRow}
use Rattle.af_sched.proofs.EndedLemmas.{fold_keeps}
use Rattle.af_sched.proofs.FittingLemmas.{name_is}
use Rattle.af_sched.proofs.NumberLemmas.{grows_run}
use Rattle.af_sched.proofs.PlanLemmas.{IsWholeFor, whole_due, whole_fold}

-- ---- what is told of it
pub told_empty : (xs : List Run) (len : ℕ) (b : Bool) → length xs ≡ len → b ≡ (len == 0) → (not b ≡ false) ↔ (xs ≡ [])
told_empty xs len b long is = by xs (is ∙ ap (λ (n : ℕ). n == 0) (sym long))
  where
    by : (ys : List Run) → b ≡ (length ys == 0) → (not b ≡ false) ↔ (ys ≡ [])
    by [] same = (λ _. refl, λ _. ap not same)
    by (y ∷ ys) same =
        let some : (suc (length ys) == 0) ≡ false = grind (arith, nat_tests) in
        let told : b ≡ false = same ∙ some in
        (λ no. absurd (true≢false (sym (ap not told) ∙ no)), λ none. absurd (cc))

-- ---- the cursors stay
pub same_cursors : (dags : List DagRow) → with_cursors dags (map (λ row. row.cursor) dags) ≡ dags
same_cursors [] = refl
same_cursors (row ∷ dags) = λ i. row ∷ same_cursors dags i

-- ---- the runs are whole
-- what is found has the id
pub found_is : (dags : List DagRow) (dag_id : List ℕ) (row : DagRow) → dag_of dags dag_id ≡ Some row → is_of_id dag_id row ≡ true
found_is [] dag_id row found = absurd (cc)
found_is (x ∷ dags) dag_id row found = by (is_of_id dag_id x) refl (found_is dags dag_id row)
  where
    by : (b : Bool) → is_of_id dag_id x ≡ b → (dag_of dags dag_id ≡ Some row → is_of_id dag_id row ≡ true) → is_of_id dag_id row ≡ true
    by true is rest = let here : Some x ≡ Some row = rw is at found in let same : x ≡ row = cc in ap (is_of_id dag_id) (sym same) ∙ is
    by false is rest = rest (rw is at found)

pub found_by_own_id : (dags : List DagRow) (dag_id : List ℕ) (row : DagRow) → dag_of dags dag_id ≡ Some row → dag_of dags row.dag.dag_id ≡ Some row
found_by_own_id dags dag_id row found =
    ap (dag_of dags) (name_is row.dag.dag_id dag_id (found_is dags dag_id row found)) ∙ found

pub whole_backfill : (state : StateRows) (dag_id : List ℕ) (first last : ℕ) → All (IsWholeFor state.dags) (backfill_of state dag_id first last)
whole_backfill state dag_id first last = by (dag_of state.dags dag_id) refl
  where
    of_row : (row : DagRow) → dag_of state.dags row.dag.dag_id ≡ Some row → (schedule : Option Schedule) → All (IsWholeFor state.dags) (option_map_or (λ it. backfill_runs row.dag (is_scheduled it) first last) schedule [])
    of_row row found None = All-nil (IsWholeFor state.dags)
    of_row row found (Some schedule) = whole_due state.dags Backfill row (is_scheduled schedule) (points_within (is_scheduled schedule) first last) found

    by : (o : Option DagRow) → dag_of state.dags dag_id ≡ o → All (IsWholeFor state.dags) (option_map_or (backfill_of_row first last) o [])
    by None is = All-nil (IsWholeFor state.dags)
    by (Some row) is = of_row row (found_by_own_id state.dags dag_id row is) row.dag.schedule

-- ---- the plan
-- what a backfill by these runs on a state was worked out from: the additions to its runs before and after them, and the cursors
pub record Gathers (state : StateRows) (news : List NewRun) (first last : RunAdditions) (cursors : List (Option ℕ)) : Type 0 where
  pub rows : AreRows state.dags state.runs
  pub before : first.before ≡ state.runs
  pub none : first.added ≡ []
  pub next : first.next ≡ state.next_run
  pub stays : last.before ≡ state.runs
  pub takes : TakesRuns news (together first) (together last)
  pub kept : AreRuns (state.runs ++ last.added) last.next
  pub told : cursors ≡ map (λ row. row.cursor) state.dags
  pub whole : All (IsWholeFor state.dags) news

module _ (state : StateRows) (news : List NewRun) (first last : RunAdditions) (cursors : List (Option ℕ)) (gathers : Gathers state news first last cursors) (changes : Bool) where
  abbrev pub plan_of : PlanRows
  plan_of = record { cursors = cursors; moved = []; added = last.added; next_run = last.next; changes = changes }

  pub made : fold with_run state news ≡ record state { runs = state.runs ++ last.added; next_run = last.next }
  made =
      let old_rows : first.before ++ first.added ≡ state.runs = (λ i. gathers.before i ++ gathers.none i) ∙ append-nil state.runs in
      let start : with_rows state (together first) ≡ state = λ i. record state { runs = old_rows i; next_run = gathers.next i } in
      ap (λ (s : StateRows). fold with_run s news) (sym start) ∙ sym (gathers.takes state) ∙ (λ i. record state { runs = gathers.stays i ++ last.added; next_run = last.next })

  pub plan_backfills : applied plan_of state ≡ fold with_run state news
  plan_backfills =
      let dags : with_cursors state.dags cursors ≡ state.dags = ap (with_cursors state.dags) gathers.told ∙ same_cursors state.dags in
      (λ i. record state { dags = dags i; runs = state.runs ++ last.added; next_run = last.next }) ∙ sym made

  pub plan_fits : Fits plan_of state
  plan_fits = record {
    count = ap length gathers.told ∙ length-map state.dags (λ row. row.cursor);
    numbers = subst (λ (s : StateRows). state.next_run ≤ s.next_run) made (fold_keeps (λ (s : StateRows). state.next_run ≤ s.next_run) with_run (λ s new least. grows_run state.next_run s new least) state news (omega arith));
    whole = subst (λ (s : StateRows). All (IsWhole state.dags) s.runs) made (whole_fold state.dags news state gathers.whole gathers.rows.whole);
    kept = gathers.kept;
  }
