-- Where a clear leaves all as it is.
use Rattle.std.proofs.Common.{◌≡◌, ◌∙◌, refl, sym, ap, ℕ, ◌+◌, List, [], ◌∷◌, map, get_or, drop, Bool, true, false, ◌&&◌, ◌==◌, arith, ⊎_elim, ◌++◌, cond, ◌||◌}
use Rattle.std.specs.Prelude.{filter, Option, Some, None, is_none, not, ◌↔◌}
use Rattle.std.specs.List.{enumerate_from, list_all}
use Rattle.std.specs.Option.{option_map_or}
use Rattle.std.proofs.lemmas.Bool.{cases_Bool, false≢true}
use Rattle.std.proofs.lemmas.Bool.Decides.{nat_tests}
use Rattle.af_graph.specs.States.{same_state}
use Rattle.af_graph.specs.declared.task_state.TaskState.{TaskState}
use Rattle.af_graph.specs.declared.task_state.TaskState.TheVariants as task_state
use Rattle.af_runs.specs.Clears.{admits, after_clear, are_left_by, chosen_with, cleared_instance, cleared_run, is_cleared, is_left_by, is_requeued, run_after, stays_in_clear, with_cleared}
use Rattle.af_runs.specs.Runs.{is_finished}
use Rattle.af_runs.specs.declared.instance.Instance.{Instance}
use Rattle.af_runs.specs.declared.run.Run.{Run}
use Rattle.af_runs.specs.declared.run_filter.RunFilter.{RunFilter}
use Rattle.af_runs.specs.declared.selection.Selection.{Selection}
use Rattle.af_runs.proofs.MarkLemmas.{both, neither}

no_status_is : (state : TaskState) → same_state state task_state.NoStatus ≡ true → state ≡ task_state.NoStatus
no_status_is task_state.NoStatus same = refl
no_status_is task_state.Scheduled same = absurd (cc)
no_status_is task_state.Queued same = absurd (cc)
no_status_is task_state.Running same = absurd (cc)
no_status_is task_state.Success same = absurd (cc)
no_status_is task_state.Failed same = absurd (cc)
no_status_is task_state.Skipped same = absurd (cc)
no_status_is task_state.UpstreamFailed same = absurd (cc)
no_status_is task_state.UpForRetry same = absurd (cc)

none_is : (o : Option ℕ) → is_none o ≡ true → o ≡ None
none_is None is = refl
none_is (Some n) is = absurd (cc)

number_is : (n m : ℕ) → (n == m) ≡ true → n ≡ m
number_is n m same = grind (arith, nat_tests)

same_number : (n : ℕ) → (n == n) ≡ true
same_number n = grind (arith, nat_tests)

is_not : (b : Bool) → not b ≡ true → b ≡ false
is_not true is = absurd (cc)
is_not false is = refl

all_five : (a b c d e : Bool) → (a && b && c && d && e) ≡ true → (a ≡ true) × (b ≡ true) × (c ≡ true) × (d ≡ true) × (e ≡ true)
all_five true true true true true is = (refl, refl, refl, refl, refl)
all_five true true true true false is = absurd (cc)
all_five true true true false e is = absurd (cc)
all_five true true false d e is = absurd (cc)
all_five true false c d e is = absurd (cc)
all_five false b c d e is = absurd (cc)

-- ---- an instance
pub cleared_is : (retries : ℕ) (x : Instance) → is_cleared retries x ≡ true → cleared_instance retries x ≡ x
cleared_is retries x is =
    let parts = all_five (same_state x.state task_state.NoStatus) (x.max_tries == x.try_number + retries) (is_none x.start_date) (is_none x.end_date) (is_none x.retry_at) is in
    let state = sym (no_status_is x.state parts.0) in
    let tries = sym (number_is x.max_tries (x.try_number + retries) parts.1) in
    let start = sym (none_is x.start_date parts.2) in
    let end = sym (none_is x.end_date parts.3) in
    let retry = sym (none_is x.retry_at parts.4) in
    λ i. record x { state = state i; max_tries = tries i; start_date = start i; end_date = end i; retry_at = retry i }

pub is_cleared_after : (retries : ℕ) (x : Instance) → is_cleared retries (cleared_instance retries x) ≡ true
is_cleared_after retries x = let tries = same_number (x.try_number + retries) in rw tries refl

stays : (o : Option ℕ) (x : Instance) → option_map_or (λ retries. is_cleared retries x) o true ≡ true → option_map_or (λ retries. cleared_instance retries x) o x ≡ x
stays None x is = refl
stays (Some retries) x is = cleared_is retries x is

stayed : (o : Option ℕ) (x : Instance) → option_map_or (λ retries. cleared_instance retries x) o x ≡ x → option_map_or (λ retries. is_cleared retries x) o true ≡ true
stayed None x is = refl
stayed (Some retries) x is = ap (is_cleared retries) (sym is) ∙ is_cleared_after retries x

module _ (selection : Selection) where
  all_stay : (n : ℕ) (xs : List Instance) → list_all (stays_in_clear selection) (enumerate_from n xs) ≡ true → map (after_clear selection) (enumerate_from n xs) ≡ xs
  all_stay n [] is = refl
  all_stay n (x ∷ xs) is =
      let parts = both (stays_in_clear selection (n, x)) (list_all (stays_in_clear selection) (enumerate_from (n + 1) xs)) is in
      let here = stays (chosen_with selection (n, x)) x parts.0 in
      let rest = all_stay (n + 1) xs parts.1 in
      λ i. here i ∷ rest i

  all_stayed : (n : ℕ) (xs : List Instance) → map (after_clear selection) (enumerate_from n xs) ≡ xs → list_all (stays_in_clear selection) (enumerate_from n xs) ≡ true
  all_stayed n [] is = refl
  all_stayed n (x ∷ xs) is =
      let here : stays_in_clear selection (n, x) ≡ true = stayed (chosen_with selection (n, x)) x (ap (λ (l : List Instance). get_or l 0 x) is) in
      let rest : list_all (stays_in_clear selection) (enumerate_from (n + 1) xs) ≡ true = all_stayed (n + 1) xs (ap (λ (l : List Instance). drop 1 l) is) in
      rw (here, rest) refl

  -- ---- a run
  pub cleared_same : (run : Run) → is_left_by selection run ≡ true → cleared_run selection run ≡ run
  cleared_same run is =
      let parts = both (not (is_requeued selection run)) (list_all (stays_in_clear selection) (enumerate_from 0 run.instances)) is in
      let instances = all_stay 0 run.instances parts.1 in
      rw (is_not (is_requeued selection run) parts.0) (λ i. record run { instances = instances i })

  -- one that has ended is not queued again
  not_queued : (run : Run) → cleared_run selection run ≡ run → is_requeued selection run ≡ false
  not_queued run is =
      ⊎_elim
      (λ (again : is_requeued selection run ≡ true).
      let ended : is_finished run.state ≡ true = (both (is_finished run.state) _ again).0 in
      let queued : is_finished run.state ≡ false = ap (λ (r : Run). is_finished r.state) (sym is) ∙ rw again refl in
      absurd (false≢true (sym queued ∙ ended)))
      (λ (no : is_requeued selection run ≡ false). no)
      (cases_Bool (is_requeued selection run))

  pub same_cleared : (run : Run) → cleared_run selection run ≡ run → is_left_by selection run ≡ true
  same_cleared run is =
      let again = not_queued run is in
      let rest : list_all (stays_in_clear selection) (enumerate_from 0 run.instances) ≡ true = all_stayed 0 run.instances (ap (λ (r : Run). r.instances) is) in
      rw (again, rest) refl

  -- ---- all runs
  module _ (asked : RunFilter) where
    pub runs_same : (runs : List Run) → are_left_by asked selection runs ≡ true → with_cleared runs asked selection ≡ runs
    runs_same [] is = refl
    runs_same (run ∷ runs) is =
        ⊎_elim
        (λ (within : admits asked run ≡ true).
        let parts = both (is_left_by selection run) (are_left_by asked selection runs) (rw within at is) in
        let here : run_after asked selection run ≡ run = rw within (cleared_same run parts.0) in
        let rest = runs_same runs parts.1 in
        λ i. here i ∷ rest i)
        (λ (without : admits asked run ≡ false).
        let here : run_after asked selection run ≡ run = rw without refl in
        let rest = runs_same runs (rw without at is) in
        λ i. here i ∷ rest i)
        (cases_Bool (admits asked run))

    pub same_runs : (runs : List Run) → with_cleared runs asked selection ≡ runs → are_left_by asked selection runs ≡ true
    same_runs [] is = refl
    same_runs (run ∷ runs) is =
        let here : run_after asked selection run ≡ run = ap (λ (l : List Run). get_or l 0 run) is in
        let rest : are_left_by asked selection runs ≡ true = same_runs runs (ap (λ (l : List Run). drop 1 l) is) in
        ⊎_elim
        (λ (within : admits asked run ≡ true). let left : is_left_by selection run ≡ true = same_cleared run (rw within at here) in rw within (rw (left, rest) refl))
        (λ (without : admits asked run ≡ false). rw without rest)
        (cases_Bool (admits asked run))

-- ---- runs that are seen one after the other
module _ (selection : Selection) (asked : RunFilter) where
  abbrev left_run : Run → Bool
  left_run run = not (admits asked run) || is_left_by selection run

  one_left : (b : Bool) (run : Run) → (not b || is_left_by selection run) ≡ true → list_all (is_left_by selection) (cond b (run ∷ []) []) ≡ true
  one_left true run is = rw is refl
  one_left false run is = refl

  more_case : (b : Bool) (x : Run) (some more : List Run) → (list_all (is_left_by selection) some ≡ true → list_all (is_left_by selection) more ≡ true) → list_all (is_left_by selection) (cond b (x ∷ some) some) ≡ true → list_all (is_left_by selection) (cond b (x ∷ more) more) ≡ true
  more_case true x some more rest is =
      let parts = both (is_left_by selection x) (list_all (is_left_by selection) some) is in
      rw (parts.0, rest parts.1) refl
  more_case false x some more rest is = rest is

  pub left_more : (seen : List Run) (run : Run) → are_left_by asked selection seen ≡ true → left_run run ≡ true → are_left_by asked selection (seen ++ run ∷ []) ≡ true
  left_more [] run all is = one_left (admits asked run) run is
  left_more (x ∷ seen) run all is = more_case (admits asked x) x (filter (admits asked) seen) (filter (admits asked) (seen ++ run ∷ [])) (λ rest. left_more seen run rest is) all

  one_fails : (b : Bool) (run : Run) (rest : List Run) → (not b || is_left_by selection run) ≡ false → list_all (is_left_by selection) (cond b (run ∷ rest) rest) ≡ false
  one_fails true run rest is = rw is refl
  one_fails false run rest is = absurd (cc)

  fails_case : (b : Bool) (x : Run) (some : List Run) → list_all (is_left_by selection) some ≡ false → list_all (is_left_by selection) (cond b (x ∷ some) some) ≡ false
  fails_case true x some is = neither (is_left_by selection x) (list_all (is_left_by selection) some) is
  fails_case false x some is = is

  pub left_fails : (seen : List Run) (run : Run) (rest : List Run) → left_run run ≡ false → are_left_by asked selection (seen ++ run ∷ rest) ≡ false
  left_fails [] run rest is = one_fails (admits asked run) run (filter (admits asked) rest) is
  left_fails (x ∷ seen) run rest is = fails_case (admits asked x) x (filter (admits asked) (seen ++ run ∷ rest)) (left_fails seen run rest is)

pub cleared_stands : (selection : Selection) (run : Run) → (is_left_by selection run ≡ true) ↔ (cleared_run selection run ≡ run)
cleared_stands selection run = (cleared_same selection run, same_cleared selection run)

pub clears_stand : (runs : List Run) (asked : RunFilter) (selection : Selection) → (are_left_by asked selection runs ≡ true) ↔ (with_cleared runs asked selection ≡ runs)
clears_stand runs asked selection = (runs_same selection asked runs, same_runs selection asked runs)
