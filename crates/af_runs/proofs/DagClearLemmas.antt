-- Runs of one DAG that are cleared one after the other.
use Rattle.std.proofs.Common.{◌≡◌, ◌∙◌, refl, sym, ap, ℕ, ◌<◌, ◌≤◌, ◌+◌, List, length, get_or, set, take_all, Bool, true, false, cond, arith, ⊎_elim}
use Rattle.std.specs.Prelude.{filter}
use Rattle.std.proofs.lemmas.Bool.{cases_lt}
use Rattle.af_runs.specs.Clears.{admits, cleared_run, run_after, with_cleared}
use Rattle.af_runs.specs.Places.{IsNthOf}
use Rattle.af_runs.specs.Runs.{RunRows, is_of, runs_of}
use Rattle.af_runs.specs.declared.run.Run.{Run}
use Rattle.af_runs.specs.declared.run_filter.RunFilter.{RunFilter}
use Rattle.af_runs.specs.declared.selection.Selection.{Selection}
use Rattle.af_runs.proofs.ChangeLemmas.{AreDone, done-more, map-from, other_dag, some_run}
use Rattle.af_runs.proofs.DagPlaceLemmas.{alike, before, before_more, none_between, not_before}

module _ (asked : RunFilter) (selection : Selection) (initial : RunRows) where
  abbrev after : Run → Run
  after = run_after asked selection

  abbrev own : Run → Bool
  own = is_of asked.dag_id

  kept_case : (b : Bool) (run : Run) → own (cond b (cleared_run selection run) run) ≡ own run
  kept_case true run = refl
  kept_case false run = refl

  stays : (run : Run) → own run ≡ false → after run ≡ run
  stays run other = let out : admits asked run ≡ false = other_dag asked run other in rw out refl

  -- the same rows are the DAG's before and after
  same_own : (runs : RunRows) (b k : ℕ) (d : Run) → AreDone after initial b runs → own (get_or runs.rows k d) ≡ own (get_or initial.rows k d)
  same_own runs b k d done =
      ⊎_elim
      (λ (low : k < b). ap own (done.1 k d low) ∙ kept_case (admits asked (get_or initial.rows k d)) (get_or initial.rows k d))
      (λ (high : b ≤ k). ap own (done.2 k d high))
      (cases_lt k b)

  same_before : (runs : RunRows) (b k : ℕ) → AreDone after initial b runs → before own k runs.rows ≡ before own k initial.rows
  same_before runs b k done = alike own runs.rows initial.rows done.0 (λ j d inside. same_own runs b j d done) k

  -- rows of other DAGs are done as they are
  done_on : (runs : RunRows) (b c : ℕ) → c ≤ length initial.rows → before own b initial.rows ≡ before own c initial.rows → AreDone after initial b runs → (k : ℕ) (d : Run) → k < c → get_or runs.rows k d ≡ after (get_or initial.rows k d)
  done_on runs b c within same done k d low =
      ⊎_elim
      (λ (seen : k < b). done.1 k d seen)
      (λ (on : b ≤ k). done.2 k d on ∙ sym (stays (get_or initial.rows k d) (none_between own initial.rows b c k d same on low within)))
      (cases_lt k b)

  -- those that are done, and how many of the DAG's are among them
  abbrev pub HaveCleared : ℕ → RunRows → Type 0
  HaveCleared nth runs =
      (b : ℕ) × AreDone after initial b runs × (b ≤ length initial.rows) × (before own b initial.rows ≡ nth)

  pub cleared_more : (old new : RunRows) (nth place : ℕ) → IsNthOf old.rows asked.dag_id nth place → ((d : Run) → new ≡ record old { rows = set old.rows place (after (get_or old.rows place d)) }) → HaveCleared nth old → HaveCleared (nth + 1) new
  cleared_more old new nth place at step so_far =
      let b = so_far.0 in
      let done = so_far.1 in
      let within : place < length initial.rows = omega (arith, at.within, done.0) in
      let count : before own place initial.rows ≡ nth = sym (same_before old b place done) ∙ at.before in
      let here : (d : Run) → own (get_or initial.rows place d) ≡ true = λ d. sym (same_own old b place d done) ∙ at.here d in
      some_run initial.rows place within (λ d.
      let from : b ≤ place = not_before own initial.rows b place d within (here d) (count ∙ sym so_far.3) in
      let done_at : AreDone after initial place old =
      (done.0, done_on old b place (omega (arith, within)) (so_far.3 ∙ sym count) done, λ k e above. done.2 k e (omega (arith, above, from)), done.3) in
      let more : before own (place + 1) initial.rows ≡ nth + 1 = before_more own initial.rows place d within (here d) ∙ ap (λ (n : ℕ). n + 1) count in
      (place + 1, done-more after initial old new place at.within step done_at, omega (arith, within), more))

  -- as long as not all are cleared there is a next one
  all_before : (rows : List Run) → before own (length rows) rows ≡ length (runs_of rows asked.dag_id)
  all_before rows = ap (λ (l : List Run). length (filter own l)) (take_all (length rows) rows (omega arith))

  pub none_missed : (runs : RunRows) (nth : ℕ) → HaveCleared nth runs → length (runs_of runs.rows asked.dag_id) ≤ nth → nth < length (runs_of initial.rows asked.dag_id) → ⊥
  none_missed runs nth so_far past left =
      let same : before own (length runs.rows) runs.rows ≡ before own (length runs.rows) initial.rows = same_before runs so_far.0 (length runs.rows) so_far.1 in
      let there : before own (length runs.rows) initial.rows ≡ before own (length initial.rows) initial.rows = ap (λ (n : ℕ). before own n initial.rows) so_far.1.0 in
      absurd (omega (arith, past, left, all_before runs.rows, all_before initial.rows, same, there))

  pub cleared_all : (runs : RunRows) (nth : ℕ) → length (runs_of initial.rows asked.dag_id) ≤ nth → HaveCleared nth runs → nth ≤ length (runs_of initial.rows asked.dag_id) → runs ≡ record initial { rows = with_cleared initial.rows asked selection }
  cleared_all runs nth all so_far most =
      let done = so_far.1 in
      let count : before own so_far.0 initial.rows ≡ before own (length initial.rows) initial.rows = omega (arith, all, most, so_far.3, all_before initial.rows) in
      let rows = map-from after initial.rows runs.rows done.0 (done_on runs so_far.0 (length initial.rows) (omega arith) count done) in
      done.3 ∙ (λ i. record initial { rows = rows i })
