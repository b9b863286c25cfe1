-- A run that is deleted: the run of its number is the run of its ids, and without it the runs are others.
use Rattle.std.proofs.Common.{◌≡◌, ◌≢◌, ◌∙◌, ◌≤◌, ◌<◌, ℕ, Bool, true, false, cond, not, List, [], ◌∷◌, length, refl, sym, ap, subst, arith}
use Rattle.std.specs.Prelude.{Some, filter, find, map}
use Rattle.std.specs.List.{AllByRecursion, IsDistinct}
use Rattle.std.specs.List.Sorted.{IsStrictlySortedBy}
use Rattle.std.specs.Cmp.Lexicographic.{bytes_decides}
use Rattle.std.specs.Ordering.{nat_cmp}
use Rattle.std.specs.declared.cmp.Ordering.TheVariants.{Less}
use Rattle.std.proofs.lemmas.Bool.{and_parts}
use Rattle.af_graph.specs.Graph.{same_name}
use Rattle.af_runs.specs.Runs.{AreRuns, is_of, is_run, run_of, same_ids, without_run}
use Rattle.af_runs.specs.declared.run.Run.{Run}
use Rattle.af_sched.specs.State.{StateRows}
use Rattle.af_ops.specs.declared.edit.Edit.TheVariants as edit
use Rattle.af_ops.specs.Edits.{without}
use Rattle.af_ops.specs.Effects.{without_run_of}
use Rattle.af_ops.specs.Laws.{LeavesOthers}
use Rattle.af_ops.specs.Prepared.{IsExact}
use Rattle.af_ops.proofs.MarkingLemmas.{found_above, higher_number, lower_number, same_number, some_same}

-- ---- by its number, and by its ids
module _ (dag_id run_id : List ℕ) where
  others : List Run → List Run
  others runs = filter (λ (run : Run). not (is_run dag_id run_id run)) runs

  none_numbered : (number : ℕ) (runs : List Run) → AllByRecursion (λ n. nat_cmp number n ≡ Less) (map (λ (run : Run). run.number) runs) → without_run runs number ≡ runs
  none_numbered number [] above = refl
  none_numbered number (run ∷ runs) above =
      let rest = none_numbered number runs above.1 in
      rw (higher_number number run.number above.0) (ap (λ rows. run ∷ rows) rest)

  none_named : (runs : List Run) → AllByRecursion (λ run. is_run dag_id run_id run ≡ false) runs → others runs ≡ runs
  unfolding others
  none_named [] all = refl
  none_named (run ∷ runs) all =
      let rest = none_named runs all.1 in
      rw all.0 (ap (λ rows. run ∷ rows) rest)

  removed_by : (is : Bool) (first run : Run) (runs : List Run) → is_run dag_id run_id first ≡ is → AllByRecursion (λ n. nat_cmp first.number n ≡ Less) (map (λ (r : Run). r.number) runs) → AllByRecursion (λ r. same_ids first r ≡ false) runs
      → (find (is_run dag_id run_id) runs ≡ Some run → without_run runs run.number ≡ others runs) → cond is (Some first) (find (is_run dag_id run_id) runs) ≡ Some run → without_run (first ∷ runs) run.number ≡ others (first ∷ runs)
  unfolding others
  removed_by true first run runs is above distinct later found =
      let names = and_parts (same_name first.dag_id dag_id) (same_name first.run_id run_id) is in
      let dag : first.dag_id ≡ dag_id = (bytes_decides first.dag_id dag_id).0 names.0 in
      let own : first.run_id ≡ run_id = (bytes_decides first.run_id run_id).0 names.1 in
      let rest : AllByRecursion (λ r. is_run dag_id run_id r ≡ false) runs =
      subst (λ (d : List ℕ). AllByRecursion (λ r. is_run d run_id r ≡ false) runs) dag
      (subst (λ (i : List ℕ). AllByRecursion (λ r. is_run first.dag_id i r ≡ false) runs) own distinct) in
      let number : run.number ≡ first.number = ap (λ (r : Run). r.number) (sym (some_same found)) in
      let left = subst (λ (n : ℕ). without_run runs n ≡ runs) (sym number) (none_numbered first.number runs above) in
      rw (same_number first.number run.number (sym number), is) (left ∙ sym (none_named runs rest))
  removed_by false first run runs is above distinct later found =
      rw (lower_number first.number run.number (found_above dag_id run_id first.number runs run above found), is) (ap (λ rows. first ∷ rows) (later found))

  removed_run : (runs : List Run) (run : Run) → IsStrictlySortedBy nat_cmp (map (λ (r : Run). r.number) runs) → IsDistinct same_ids runs → find (is_run dag_id run_id) runs ≡ Some run → without_run runs run.number ≡ others runs
  unfolding IsStrictlySortedBy IsDistinct
  removed_run [] run order distinct found = cc
  removed_run (first ∷ runs) run order distinct found =
      removed_by (is_run dag_id run_id first) first run runs refl order.0 distinct.0 (λ later. removed_run runs run order.1 distinct.1 later) found

-- of runs that are kept as they are to be, the run of a run's number is the run of its ids
pub removes_same : (state : StateRows) (dag_id run_id : List ℕ) (run : Run) → AreRuns state.runs state.next_run → run_of state.runs dag_id run_id ≡ Some run → without state run.number ≡ without_run_of state dag_id run_id
unfolding others
removes_same state dag_id run_id run are found =
    ap (λ (runs : List Run). record state { runs = runs }) (removed_run dag_id run_id state.runs run are.in_order are.one_of_an_id found)

-- ---- fewer runs
fewer_by : {X : Type 0} (b : Bool) (p : X → Bool) (x : X) (xs : List X) → length (filter p xs) ≤ length xs → length (cond b (x ∷ filter p xs) (filter p xs)) ≤ length (x ∷ xs)
fewer_by true p x xs rest = omega (arith, rest)
fewer_by false p x xs rest = omega (arith, rest)

fewer : {X : Type 0} (p : X → Bool) (xs : List X) → length (filter p xs) ≤ length xs
fewer p [] = omega arith
fewer p (x ∷ xs) = fewer_by (p x) p x xs (fewer p xs)

less_by : (is : Bool) (dag_id run_id : List ℕ) (first run : Run) (runs : List Run) → is_run dag_id run_id first ≡ is → cond is (Some first) (run_of runs dag_id run_id) ≡ Some run
    → (run_of runs dag_id run_id ≡ Some run → length (filter (λ (r : Run). not (is_run dag_id run_id r)) runs) < length runs)
    → length (filter (λ (r : Run). not (is_run dag_id run_id r)) (first ∷ runs)) < length (first ∷ runs)
less_by true dag_id run_id first run runs is found later =
    let rest = fewer (λ (r : Run). not (is_run dag_id run_id r)) runs in
    rw is (omega (arith, rest))
less_by false dag_id run_id first run runs is found later =
    let rest = later found in
    rw is (omega (arith, rest))

less_runs : (dag_id run_id : List ℕ) (runs : List Run) (run : Run) → run_of runs dag_id run_id ≡ Some run → length (filter (λ (r : Run). not (is_run dag_id run_id r)) runs) < length runs
less_runs dag_id run_id [] run found = cc
less_runs dag_id run_id (first ∷ runs) run found =
    less_by (is_run dag_id run_id first) dag_id run_id first run runs refl found (λ later. less_runs dag_id run_id runs run later)

-- a state whose run is deleted is another
pub deleted_apart : (state : StateRows) (dag_id run_id : List ℕ) (run : Run) → run_of state.runs dag_id run_id ≡ Some run → without_run_of state dag_id run_id ≢ state
deleted_apart state dag_id run_id run found same =
    let less = less_runs dag_id run_id state.runs run found in
    let equal = ap (λ (s : StateRows). length s.runs) same in
    absurd (omega (arith, less, equal))

pub remove_exact : (state : StateRows) (dag_id run_id : List ℕ) (run : Run) → AreRuns state.runs state.next_run → run_of state.runs dag_id run_id ≡ Some run → IsExact state (edit.RunRemoved run.number)
remove_exact state dag_id run_id run are found =
    ((λ none. cc), (λ same. absurd (deleted_apart state dag_id run_id run found (sym (removes_same state dag_id run_id run are found) ∙ same))))

-- ---- runs of other DAGs
kept_run : (is : Bool) (dag_id run_id : List ℕ) (run : Run) (new old : List Run) → is_run dag_id run_id run ≡ is → filter (λ r. not (is_of dag_id r)) new ≡ filter (λ r. not (is_of dag_id r)) old
    → filter (λ r. not (is_of dag_id r)) (cond (not is) (run ∷ new) new) ≡ filter (λ r. not (is_of dag_id r)) (run ∷ old)
kept_run true dag_id run_id run new old is rest =
    rw (and_parts (same_name run.dag_id dag_id) (same_name run.run_id run_id) is).0 rest
kept_run false dag_id run_id run new old is rest = ap (λ rows. cond (not (is_of dag_id run)) (run ∷ rows) rows) rest

other_runs_stay : (dag_id run_id : List ℕ) (runs : List Run) → filter (λ r. not (is_of dag_id r)) (filter (λ r. not (is_run dag_id run_id r)) runs) ≡ filter (λ r. not (is_of dag_id r)) runs
other_runs_stay dag_id run_id [] = refl
other_runs_stay dag_id run_id (run ∷ runs) =
    kept_run (is_run dag_id run_id run) dag_id run_id run (filter (λ r. not (is_run dag_id run_id r)) runs) runs refl (other_runs_stay dag_id run_id runs)

pub deletes_stay : (state : StateRows) (dag_id run_id : List ℕ) → LeavesOthers dag_id state (without_run_of state dag_id run_id)
deletes_stay state dag_id run_id = record { dags = refl; runs = other_runs_stay dag_id run_id state.runs; pools = refl; variables = refl }
