-- A backfill fills its range.
use Rattle.std.proofs.Common.{◌≡◌, ◌∙◌, ◌+◌, ◌-◌, ◌++◌, ◌&&◌, ◌||◌, inl, inr, ℕ, List, [], ◌∷◌, length, map, get_or, refl, sym, ap, arith, suc, Bool, true, false, cond, append_assoc, ⊎_elim}
use Rattle.std.specs.Prelude.{All, filter, fold, is_none, nat_le, not, Option, Some, None, unwrap_or}
use Rattle.std.specs.Option.{option_map_or}
use Rattle.std.specs.List.{list_any, range_with_len}
use Rattle.std.proofs.lemmas.Bool.{cases_Bool, false≢true, true≢false}
use Rattle.std.proofs.lemmas.List.{append-nil}
use Rattle.std.proofs.lemmas.List.Elements.{All-cons, All-filter, All-nil, filter_passes}
use Rattle.af_names.specs.Instants.{last_micros}
use Rattle.af_graph.specs.declared.dag_spec.DagSpec.{DagSpec}
use Rattle.af_runs.specs.Runs.{add_fault, has_room, is_dated, is_full, is_run, is_taken, queued_run}
use Rattle.af_runs.specs.declared.new_run.NewRun.{NewRun}
use Rattle.af_runs.specs.declared.run.Run.{Run}
use Rattle.af_runs.specs.declared.run_fault.RunFault.TheVariants.{DateTaken, Full, RunExists}
use Rattle.af_sched.specs.Backfills.{AreSomeOf, Backfills, IsBackfilled, backfill_id, backfill_run, backfill_runs, backfilled, is_free, points_within}
use Rattle.af_sched.specs.Create.{with_run}
use Rattle.af_sched.specs.Due.{due_from, is_due, next_after}
use Rattle.af_sched.specs.State.{StateRows}
use Rattle.af_sched.proofs.BackfillLemmas.{all_taken, any_stays, more_of}

-- ---- the points have a next one
has_next : (is_point : ℕ → Bool) (at : ℕ) → is_due is_point last_micros at ≡ true → next_after is_point at ≡ Some (unwrap_or (next_after is_point at) at)
has_next is_point at due = by (is_point at) (next_after is_point at) due
  where
    by : (b : Bool) (o : Option ℕ) → (b && option_map_or (λ end. nat_le end last_micros) o false) ≡ true → o ≡ Some (unwrap_or o at)
    by b (Some end) is = refl
    by true None is = absurd (false≢true is)
    by false None is = absurd (false≢true is)

-- what passes the test of a filter
passing : (P : ℕ → Type 0) (test : ℕ → Bool) (xs : List ℕ) → ((x : ℕ) → test x ≡ true → P x) → All P (filter test xs)
passing P test xs each k d inside = each (get_or (filter test xs) k d) (filter_passes test xs k d inside)

all_have_next : (is_point : ℕ → Bool) (first last : ℕ) → All (λ at. next_after is_point at ≡ Some (unwrap_or (next_after is_point at) at)) (points_within is_point first last)
unfolding points_within due_from
all_have_next is_point first last =
    All-filter (λ at. nat_le at last) (λ at. next_after is_point at ≡ Some (unwrap_or (next_after is_point at) at)) (filter (is_due is_point last_micros) (range_with_len first (last_micros - first)))
    (passing (λ at. next_after is_point at ≡ Some (unwrap_or (next_after is_point at) at)) (is_due is_point last_micros) (range_with_len first (last_micros - first)) (has_next is_point))

-- ---- the runs that are added
free_of : (a b f : Bool) → is_none (cond a (Some RunExists) (cond b (Some DateTaken) (cond f (Some Full) None))) ≡ true → (a || b) ≡ false
free_of true b f none = absurd (false≢true none)
free_of false true f none = absurd (false≢true none)
free_of false false f none = refl

parts_false : (a b : Bool) → (a || b) ≡ false → (a ≡ false) × (b ≡ false)
parts_false true b none = absurd (true≢false none)
parts_false false b none = (refl, none)

neither : (a b : Bool) → a ≡ false → b ≡ false → (a || b) ≡ false
neither true b one other = one
neither false b one other = other

not_before : (test : Run → Bool) (runs more : List Run) → list_any test (runs ++ more) ≡ false → list_any test runs ≡ false
not_before test runs more none =
    ⊎_elim
    (λ (is : list_any test runs ≡ true). absurd (false≢true (sym none ∙ any_stays test runs more is)))
    (λ (no : list_any test runs ≡ false). no)
    (cases_Bool (list_any test runs))

-- what is free once there are more runs was free
free_before : (runs more : List Run) (dag_id run_id : List ℕ) (date : ℕ) → is_taken (runs ++ more) dag_id run_id date ≡ false → is_taken runs dag_id run_id date ≡ false
free_before runs more dag_id run_id date none =
    let parts = parts_false (list_any (is_run dag_id run_id) (runs ++ more)) (list_any (is_dated dag_id date) (runs ++ more)) none in
    neither (list_any (is_run dag_id run_id) runs) (list_any (is_dated dag_id date) runs) (not_before (is_run dag_id run_id) runs more parts.0) (not_before (is_dated dag_id date) runs more parts.1)

module _ (dag : DagSpec) (is_point : ℕ → Bool) where
  abbrev WasFree : StateRows → Run → Type 0
  WasFree state run = is_taken state.runs run.dag_id run.run_id run.logical_date ≡ false

  -- what the runs of these points leave of a state
  record Leaves (points : List ℕ) (old new : StateRows) : Type 0 where
    added : List Run
    rest : new ≡ record old { runs = old.runs ++ added; next_run = old.next_run + length added }
    numbers : map (λ (run : Run). run.number) added ≡ range_with_len old.next_run (length added)
    each : All (IsBackfilled dag is_point) added
    dates : AreSomeOf (map (λ (run : Run). run.logical_date) added) points
    free : All (WasFree old) added

  leaves_more : (p : ℕ) (points : List ℕ) (state new : StateRows) → next_after is_point p ≡ Some (unwrap_or (next_after is_point p) p) → is_taken state.runs dag.dag_id (backfill_id p) p ≡ false → Leaves points (more_of state (backfill_run dag is_point p)) new → Leaves (p ∷ points) state new
  leaves_more p points state new next free leaves =
      let run : Run = queued_run state.next_run (backfill_run dag is_point p) in
      let count : state.next_run + 1 + length leaves.added ≡ state.next_run + length (run ∷ leaves.added) = omega arith in
      record {
        added = run ∷ leaves.added;
        rest = leaves.rest ∙ (λ i. record state { runs = append_assoc state.runs (run ∷ []) leaves.added i; next_run = count i });
        numbers = ap (λ (ns : List ℕ). state.next_run ∷ ns) leaves.numbers;
        each = All-cons (IsBackfilled dag is_point) run leaves.added (record { of_dag = refl; named = refl; begins = refl; ends = next; made = refl; queued = refl; undated = (refl, refl); untried = refl }) leaves.each;
        dates = inr (map (λ (r : Run). r.logical_date) leaves.added, refl, leaves.dates);
        free = All-cons (WasFree state) run leaves.added free (λ k d inside. free_before state.runs (run ∷ []) (get_or leaves.added k d).dag_id (get_or leaves.added k d).run_id (get_or leaves.added k d).logical_date (leaves.free k d inside));
      }

  leaves_same : (p : ℕ) (points : List ℕ) (state new : StateRows) → Leaves points state new → Leaves (p ∷ points) state new
  leaves_same p points state new leaves = record { added = leaves.added; rest = leaves.rest; numbers = leaves.numbers; each = leaves.each; dates = inl leaves.dates; free = leaves.free }

  leaves_all : (points : List ℕ) (state : StateRows) → All (λ at. next_after is_point at ≡ Some (unwrap_or (next_after is_point at) at)) points → Leaves points state (fold with_run state (map (backfill_run dag is_point) points))
  leaves_all [] state next =
      let same : state.next_run ≡ state.next_run + 0 = omega arith in
      record { added = []; rest = λ i. record state { runs = sym (append-nil state.runs) i; next_run = same i }; numbers = refl; each = All-nil (IsBackfilled dag is_point); dates = refl; free = All-nil (WasFree state) }
  leaves_all (p ∷ points) state next =
      by (is_none (add_fault state.runs state.next_run dag.dag_id (backfill_id p) p)) refl
      (λ (s : StateRows). leaves_all points s (λ k d inside. next (suc k) d (omega arith)))
    where
      news : List NewRun
      news = map (backfill_run dag is_point) points

      by : (b : Bool) → is_none (add_fault state.runs state.next_run dag.dag_id (backfill_id p) p) ≡ b → ((s : StateRows) → Leaves points s (fold with_run s news)) → Leaves (p ∷ points) state (fold with_run (cond b (more_of state (backfill_run dag is_point p)) state) news)
      by true none rest =
          leaves_more p points state (fold with_run (more_of state (backfill_run dag is_point p)) news) (next 0 p (omega arith))
          (free_of (list_any (is_run dag.dag_id (backfill_id p)) state.runs) (list_any (is_dated dag.dag_id p) state.runs) (is_full state.runs state.next_run dag.dag_id) none)
          (rest (more_of state (backfill_run dag is_point p)))
      by false fault rest = leaves_same p points state (fold with_run state news) (rest state)

  -- ---- the range
  of_dag : (points : List ℕ) → All (λ new. new.dag_id ≡ dag.dag_id) (map (backfill_run dag is_point) points)
  of_dag [] = All-nil (λ (new : NewRun). new.dag_id ≡ dag.dag_id)
  of_dag (p ∷ points) = All-cons (λ (new : NewRun). new.dag_id ≡ dag.dag_id) (backfill_run dag is_point p) (map (backfill_run dag is_point) points) refl (of_dag points)

  not_free : (b : Bool) → not b ≡ false → b ≡ true
  not_free true is = refl
  not_free false is = absurd (true≢false is)

  taken_at : (state : StateRows) (points : List ℕ) → All (λ new. is_free state new ≡ false) (map (backfill_run dag is_point) points) → All (λ at. is_taken state.runs dag.dag_id (backfill_id at) at ≡ true) points
  taken_at state [] taken = All-nil (λ at. is_taken state.runs dag.dag_id (backfill_id at) at ≡ true)
  taken_at state (p ∷ points) taken =
      All-cons (λ at. is_taken state.runs dag.dag_id (backfill_id at) at ≡ true) p points (not_free (is_taken state.runs dag.dag_id (backfill_id p) p) (taken 0 (backfill_run dag is_point p) (omega arith)))
      (taken_at state points (λ k d inside. taken (suc k) d (omega arith)))

pub backfill_fills : (dag : DagSpec) (is_point : ℕ → Bool) (first last : ℕ) (state : StateRows) → has_room state.runs state.next_run dag.dag_id (length (filter (is_free state) (backfill_runs dag is_point first last))) ≡ true → Backfills dag is_point first last state (backfilled state (backfill_runs dag is_point first last))
backfill_fills dag is_point first last state room =
    let points : List ℕ = points_within is_point first last in
    let leaves = leaves_all dag is_point points state (all_have_next is_point first last) in
    record {
      added = leaves.added;
      rest = leaves.rest;
      numbers = leaves.numbers;
      each = leaves.each;
      dates = leaves.dates;
      free = leaves.free;
      filled = taken_at dag is_point (fold with_run state (map (backfill_run dag is_point) points)) points (all_taken (map (backfill_run dag is_point) points) state dag.dag_id (of_dag dag is_point points) room);
    }
