-- A run that is marked: the run of its number is the run of its ids, and a run that is not marked so already changes.
use Rattle.std.proofs.Common.{◌≡◌, ◌≢◌, ◌∙◌, ◌==◌, ℕ, Bool, true, false, cond, List, [], ◌∷◌, drop, get_or, refl, sym, ap, subst, arith}
use Rattle.std.specs.Prelude.{Option, Some, None, find, map}
use Rattle.std.specs.List.{AllByRecursion, IsDistinct}
use Rattle.std.specs.List.Sorted.{IsStrictlySortedBy}
use Rattle.std.specs.Cmp.Lexicographic.{bytes_decides}
use Rattle.std.specs.Ordering.{nat_cmp}
use Rattle.std.specs.declared.cmp.Ordering.TheVariants.{Less}
use Rattle.std.proofs.lemmas.Bool.{and_parts, false≢true}
use Rattle.std.proofs.lemmas.Bool.Decides.{nat_tests}
use Rattle.af_graph.specs.Graph.{same_name}
use Rattle.af_runs.specs.Marks.{is_marked, marked_run}
use Rattle.af_runs.specs.Runs.{AreRuns, is_numbered, is_run, run_of, same_ids}
use Rattle.af_runs.specs.declared.mark.Mark.{Mark}
use Rattle.af_runs.specs.declared.run.Run.{Run}
use Rattle.af_runs.proofs.MarkLemmas.{same_marked}
use Rattle.af_sched.specs.State.{StateRows}
use Rattle.af_ops.specs.declared.edit.Edit.TheVariants as edit
use Rattle.af_ops.specs.Edits.{next_by, with_mark}
use Rattle.af_ops.specs.Effects.{with_marked_run}
use Rattle.af_ops.specs.Prepared.{IsExact}

-- ---- by its number, and by its ids
pub lower_number : (n m : ℕ) → nat_cmp n m ≡ Less → (n == m) ≡ false
lower_number n m less = grind (arith, nat_tests)

pub higher_number : (n m : ℕ) → nat_cmp n m ≡ Less → (m == n) ≡ false
higher_number n m less = grind (arith, nat_tests)

pub same_number : (n m : ℕ) → n ≡ m → (n == m) ≡ true
same_number n m same = grind (arith, nat_tests)

pub some_same : {X : Type 0} {x y : X} → Some x ≡ Some y → x ≡ y
some_same is = cc

module _ (dag_id run_id : List ℕ) where
  above_by : (is : Bool) (number : ℕ) (first run : Run) (found : Option Run) → nat_cmp number first.number ≡ Less → (found ≡ Some run → nat_cmp number run.number ≡ Less) → cond is (Some first) found ≡ Some run → nat_cmp number run.number ≡ Less
  above_by true number first run found here later is = subst (λ (r : Run). nat_cmp number r.number ≡ Less) (some_same is) here
  above_by false number first run found here later is = later is

  pub found_above : (number : ℕ) (runs : List Run) (run : Run) → AllByRecursion (λ n. nat_cmp number n ≡ Less) (map (λ (r : Run). r.number) runs) → find (is_run dag_id run_id) runs ≡ Some run → nat_cmp number run.number ≡ Less
  found_above number [] run above found = cc
  found_above number (first ∷ runs) run above found =
      above_by (is_run dag_id run_id first) number first run (find (is_run dag_id run_id) runs) above.0 (λ later. found_above number runs run above.1 later) found

module _ (f : Run → Run) (dag_id run_id : List ℕ) where
  by_number : ℕ → List Run → List Run
  by_number number runs = map (λ (run : Run). cond (is_numbered number run) (f run) run) runs

  by_ids : List Run → List Run
  by_ids runs = map (λ (run : Run). cond (is_run dag_id run_id run) (f run) run) runs

  none_numbered : (number : ℕ) (runs : List Run) → AllByRecursion (λ n. nat_cmp number n ≡ Less) (map (λ (run : Run). run.number) runs) → by_number number runs ≡ runs
  unfolding by_number
  none_numbered number [] above = refl
  none_numbered number (run ∷ runs) above =
      let rest = none_numbered number runs above.1 in
      rw (higher_number number run.number above.0) (ap (λ rows. run ∷ rows) rest)

  none_named : (runs : List Run) → AllByRecursion (λ run. is_run dag_id run_id run ≡ false) runs → by_ids runs ≡ runs
  unfolding by_ids
  none_named [] others = refl
  none_named (run ∷ runs) others =
      let rest = none_named runs others.1 in
      rw others.0 (ap (λ rows. run ∷ rows) rest)

  same_by : (is : Bool) (first run : Run) (runs : List Run) → is_run dag_id run_id first ≡ is → AllByRecursion (λ n. nat_cmp first.number n ≡ Less) (map (λ (r : Run). r.number) runs) → AllByRecursion (λ r. same_ids first r ≡ false) runs
      → (find (is_run dag_id run_id) runs ≡ Some run → by_number run.number runs ≡ by_ids runs) → cond is (Some first) (find (is_run dag_id run_id) runs) ≡ Some run → by_number run.number (first ∷ runs) ≡ by_ids (first ∷ runs)
  unfolding by_number by_ids
  same_by true first run runs is above distinct later found =
      let names = and_parts (same_name first.dag_id dag_id) (same_name first.run_id run_id) is in
      let dag : first.dag_id ≡ dag_id = (bytes_decides first.dag_id dag_id).0 names.0 in
      let own : first.run_id ≡ run_id = (bytes_decides first.run_id run_id).0 names.1 in
      let others : AllByRecursion (λ r. is_run dag_id run_id r ≡ false) runs =
      subst (λ (d : List ℕ). AllByRecursion (λ r. is_run d run_id r ≡ false) runs) dag
      (subst (λ (i : List ℕ). AllByRecursion (λ r. is_run first.dag_id i r ≡ false) runs) own distinct) in
      let number : run.number ≡ first.number = ap (λ (r : Run). r.number) (sym (some_same found)) in
      let left = subst (λ (n : ℕ). by_number n runs ≡ runs) (sym number) (none_numbered first.number runs above) in
      let right = none_named runs others in
      rw (same_number first.number run.number (sym number), is) (ap (λ rows. f first ∷ rows) (left ∙ sym right))
  same_by false first run runs is above distinct later found =
      rw (lower_number first.number run.number (found_above dag_id run_id first.number runs run above found), is) (ap (λ rows. first ∷ rows) (later found))

  same_run : (runs : List Run) (run : Run) → IsStrictlySortedBy nat_cmp (map (λ (r : Run). r.number) runs) → IsDistinct same_ids runs → find (is_run dag_id run_id) runs ≡ Some run → by_number run.number runs ≡ by_ids runs
  unfolding IsStrictlySortedBy IsDistinct
  same_run [] run order distinct found = cc
  same_run (first ∷ runs) run order distinct found =
      same_by (is_run dag_id run_id first) first run runs refl order.0 distinct.0 (λ later. same_run runs run order.1 distinct.1 later) found

-- of runs that are kept as they are to be, the run of a run's number is the run of its ids
pub marks_same : (state : StateRows) (dag_id run_id : List ℕ) (run : Run) (mark : Mark) (now : ℕ) → AreRuns state.runs state.next_run → run_of state.runs dag_id run_id ≡ Some run → with_mark state run.number mark now ≡ with_marked_run state dag_id run_id mark now
unfolding by_number by_ids
marks_same state dag_id run_id run mark now are found =
    ap (λ (runs : List Run). record state { runs = runs }) (same_run (marked_run mark now) dag_id run_id state.runs run are.in_order are.one_of_an_id found)

-- ---- a mark that is a change
first_apart : (is : Bool) (dag_id run_id : List ℕ) (mark : Mark) (now : ℕ) (first run : Run) (runs new : List Run) → cond is (Some first) (run_of runs dag_id run_id) ≡ Some run → is_marked mark run ≡ false → (run_of runs dag_id run_id ≡ Some run → new ≢ runs) → cond is (marked_run mark now first) first ∷ new ≡ first ∷ runs → ⊥
first_apart true dag_id run_id mark now first run runs new found differ rest same =
    let is_run : first ≡ run = cc in
    let stays : marked_run mark now first ≡ first = ap (λ (l : List Run). get_or l 0 first) same in
    false≢true (sym differ ∙ ap (is_marked mark) (sym is_run) ∙ same_marked mark now first stays)
first_apart false dag_id run_id mark now first run runs new found differ rest same = rest found (ap (λ (l : List Run). drop 1 l) same)

runs_apart : (dag_id run_id : List ℕ) (mark : Mark) (now : ℕ) (runs : List Run) (run : Run) → run_of runs dag_id run_id ≡ Some run → is_marked mark run ≡ false → map (λ (r : Run). cond (is_run dag_id run_id r) (marked_run mark now r) r) runs ≢ runs
runs_apart dag_id run_id mark now [] run found differ same = cc
runs_apart dag_id run_id mark now (first ∷ runs) run found differ same =
    first_apart (is_run dag_id run_id first) dag_id run_id mark now first run runs (map (λ (r : Run). cond (is_run dag_id run_id r) (marked_run mark now r) r) runs) found differ (λ later. runs_apart dag_id run_id mark now runs run later differ) same

pub marked_apart : (state : StateRows) (dag_id run_id : List ℕ) (run : Run) (mark : Mark) (now : ℕ) → run_of state.runs dag_id run_id ≡ Some run → is_marked mark run ≡ false → with_marked_run state dag_id run_id mark now ≢ state
marked_apart state dag_id run_id run mark now found differ same =
    runs_apart dag_id run_id mark now state.runs run found differ (ap (λ (s : StateRows). s.runs) same)

-- the edit of a run that is marked, or stands so already
pub mark_exact : (b : Bool) (state : StateRows) (dag_id run_id : List ℕ) (run : Run) (mark : Mark) (now : ℕ) → AreRuns state.runs state.next_run → run_of state.runs dag_id run_id ≡ Some run → is_marked mark run ≡ b → IsExact state (cond b edit.Nothing (edit.RunMarked run.number mark now))
mark_exact true state dag_id run_id run mark now are found is = ((λ no. refl), (λ same. refl))
mark_exact false state dag_id run_id run mark now are found is =
    ((λ no. cc), (λ same. absurd (marked_apart state dag_id run_id run mark now found is (sym (marks_same state dag_id run_id run mark now are found) ∙ same))))

-- its next state is the one that the mark makes
pub mark_next : (b : Bool) (state : StateRows) (dag_id run_id : List ℕ) (run : Run) (mark : Mark) (now : ℕ) → AreRuns state.runs state.next_run → run_of state.runs dag_id run_id ≡ Some run → next_by (cond b edit.Nothing (edit.RunMarked run.number mark now)) state ≡ cond b None (Some (with_marked_run state dag_id run_id mark now))
mark_next true state dag_id run_id run mark now are found = refl
mark_next false state dag_id run_id run mark now are found = ap (λ (s : StateRows). Some s) (marks_same state dag_id run_id run mark now are found)
