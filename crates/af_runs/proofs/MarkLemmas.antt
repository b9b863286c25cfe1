-- What marks, clears and removals leave.
use Rattle.std.proofs.Common.{◌≡◌, ◌≢◌, ◌∙◌, refl, sym, ap, ℕ, ◌<◌, ◌+◌, suc, List, [], ◌∷◌, length, map, get_or, drop, Bool, true, false, cond, ◌&&◌, ◌==◌, ◌++◌, arith, ⊎_elim}
use Rattle.std.specs.Prelude.{All, filter, flat_map, find, not, Option, Some, None, is_some}
use Rattle.std.specs.List.{enumerate_from, list_any, list_all}
use Rattle.std.specs.Option.{option_map_or}
use Rattle.std.proofs.lemmas.Bool.{cases_Bool}
use Rattle.std.proofs.lemmas.Bool.Decides.{nat_tests}
use Rattle.std.proofs.lemmas.List.{get_or-map, length-map}
use Rattle.std.proofs.lemmas.List.Elements.{All-map}
use Rattle.std.proofs.lemmas.List.FromFn.{length-enumerate_from}
use Rattle.af_graph.specs.States.{same_state}
use Rattle.af_graph.specs.States as states
use Rattle.af_graph.specs.declared.task_state.TaskState.{TaskState}
use Rattle.af_graph.specs.declared.task_state.TaskState.TheVariants as task_state
use Rattle.af_runs.specs.Busy.{is_busy, is_held}
use Rattle.af_runs.specs.Clears.{admits, after_clear, chosen_in, chosen_of, chosen_with, cleared_instance, cleared_run, is_chosen, is_requeued, run_after, with_cleared}
use Rattle.af_runs.specs.Laws.{TouchesChosenAlone}
use Rattle.af_runs.specs.Marks.{is_in_state, is_marked, marked_instance, marked_run, marked_state, same_run_state, stays_in, stopped_state, stopped_instance, succeeded_instance, with_marked}
use Rattle.af_runs.specs.Runs.{Adds, AreRuns, RunRows, is_finished, is_numbered, run_at, without_run}
use Rattle.af_runs.specs.declared.instance.Instance.{Instance}
use Rattle.af_runs.specs.declared.mark.Mark.{Mark}
use Rattle.af_runs.specs.declared.mark.Mark.TheVariants as mark
use Rattle.af_runs.specs.declared.new_run.NewRun.{NewRun}
use Rattle.af_runs.specs.declared.run.Run.{Run}
use Rattle.af_runs.specs.declared.run_filter.RunFilter.{RunFilter}
use Rattle.af_runs.specs.declared.run_state.RunState.{RunState}
use Rattle.af_runs.specs.declared.run_state.RunState.TheVariants as run_state
use Rattle.af_runs.specs.declared.selection.Selection.{Selection}
use Rattle.af_runs.proofs.ChangeLemmas.{enumerated-at}

-- ---- states
same_run_state_is : (one other : RunState) → same_run_state one other ≡ true → one ≡ other
same_run_state_is run_state.Queued run_state.Queued same = refl
same_run_state_is run_state.Queued run_state.Running same = absurd (cc)
same_run_state_is run_state.Queued run_state.Success same = absurd (cc)
same_run_state_is run_state.Queued run_state.Failed same = absurd (cc)
same_run_state_is run_state.Running run_state.Queued same = absurd (cc)
same_run_state_is run_state.Running run_state.Running same = refl
same_run_state_is run_state.Running run_state.Success same = absurd (cc)
same_run_state_is run_state.Running run_state.Failed same = absurd (cc)
same_run_state_is run_state.Success run_state.Queued same = absurd (cc)
same_run_state_is run_state.Success run_state.Running same = absurd (cc)
same_run_state_is run_state.Success run_state.Success same = refl
same_run_state_is run_state.Success run_state.Failed same = absurd (cc)
same_run_state_is run_state.Failed run_state.Queued same = absurd (cc)
same_run_state_is run_state.Failed run_state.Running same = absurd (cc)
same_run_state_is run_state.Failed run_state.Success same = absurd (cc)
same_run_state_is run_state.Failed run_state.Failed same = refl

same_run_state_self : (one other : RunState) → one ≡ other → same_run_state one other ≡ true
same_run_state_self run_state.Queued other is = rw (sym is) refl
same_run_state_self run_state.Running other is = rw (sym is) refl
same_run_state_self run_state.Success other is = rw (sym is) refl
same_run_state_self run_state.Failed other is = rw (sym is) refl

success_is : (state : TaskState) → same_state state task_state.Success ≡ true → state ≡ task_state.Success
success_is task_state.NoStatus same = absurd (cc)
success_is task_state.Scheduled same = absurd (cc)
success_is task_state.Queued same = absurd (cc)
success_is task_state.Running same = absurd (cc)
success_is task_state.Success same = refl
success_is task_state.Failed same = absurd (cc)
success_is task_state.Skipped same = absurd (cc)
success_is task_state.UpstreamFailed same = absurd (cc)
success_is task_state.UpForRetry same = absurd (cc)

stopped_ends : (state : TaskState) → states.is_finished (stopped_state state) ≡ true
stopped_ends task_state.NoStatus = refl
stopped_ends task_state.Scheduled = refl
stopped_ends task_state.Queued = refl
stopped_ends task_state.Running = refl
stopped_ends task_state.Success = refl
stopped_ends task_state.Failed = refl
stopped_ends task_state.Skipped = refl
stopped_ends task_state.UpstreamFailed = refl
stopped_ends task_state.UpForRetry = refl

ended_holds_none : (state : TaskState) → states.is_finished state ≡ true → is_held state ≡ false
ended_holds_none task_state.NoStatus ended = absurd (cc)
ended_holds_none task_state.Scheduled ended = absurd (cc)
ended_holds_none task_state.Queued ended = absurd (cc)
ended_holds_none task_state.Running ended = absurd (cc)
ended_holds_none task_state.Success ended = refl
ended_holds_none task_state.Failed ended = refl
ended_holds_none task_state.Skipped ended = refl
ended_holds_none task_state.UpstreamFailed ended = refl
ended_holds_none task_state.UpForRetry ended = absurd (cc)

pub both : (a b : Bool) → (a && b) ≡ true → (a ≡ true) × (b ≡ true)
both true true is = (refl, refl)
both true false is = absurd (cc)
both false b is = absurd (cc)

pub neither : (a b : Bool) → b ≡ false → (a && b) ≡ false
neither true b nay = nay
neither false b nay = refl

-- ---- an instance of a run that is marked
succeeded : (t : ℕ) (x : Instance) → (succeeded_instance t x).state ≡ task_state.Success
succeeded t x =
    ⊎_elim
    (λ (is : same_state x.state task_state.Success ≡ true). rw is (success_is x.state is))
    (λ (other : same_state x.state task_state.Success ≡ false). rw other refl)
    (cases_Bool (same_state x.state task_state.Success))

stopped : (t : ℕ) (x : Instance) → states.is_finished (stopped_instance t x).state ≡ true
stopped t x =
    ⊎_elim
    (λ (is : states.is_finished x.state ≡ true). rw is is)
    (λ (other : states.is_finished x.state ≡ false). rw other (stopped_ends x.state))
    (cases_Bool (states.is_finished x.state))

stays : (said : Mark) (t : ℕ) (x : Instance) → stays_in said x.state ≡ true → marked_instance said t x ≡ x
stays mark.Success t x is = rw is refl
stays mark.Failed t x is = rw is refl
stays mark.Queued t x is = refl

stayed : (said : Mark) (t : ℕ) (x : Instance) → marked_instance said t x ≡ x → stays_in said x.state ≡ true
stayed mark.Success t x is = ap (λ (s : TaskState). same_state s task_state.Success) (sym (ap (λ (y : Instance). y.state) is) ∙ succeeded t x)
stayed mark.Failed t x is = sym (ap (λ (y : Instance). states.is_finished y.state) is) ∙ stopped t x
stayed mark.Queued t x is = refl

module _ (said : Mark) (t : ℕ) where
  all_stay : (xs : List Instance) → list_all (λ (x : Instance). stays_in said x.state) xs ≡ true → map (marked_instance said t) xs ≡ xs
  all_stay [] is = refl
  all_stay (x ∷ xs) is =
      let parts = both (stays_in said x.state) (list_all (λ (x : Instance). stays_in said x.state) xs) is in
      let here = stays said t x parts.0 in
      let rest = all_stay xs parts.1 in
      λ i. here i ∷ rest i

  all_stayed : (xs : List Instance) → map (marked_instance said t) xs ≡ xs → list_all (λ (x : Instance). stays_in said x.state) xs ≡ true
  all_stayed [] is = refl
  all_stayed (x ∷ xs) is =
      let here : stays_in said x.state ≡ true = stayed said t x (ap (λ (l : List Instance). get_or l 0 x) is) in
      let rest : list_all (λ (x : Instance). stays_in said x.state) xs ≡ true = all_stayed xs (ap (λ (l : List Instance). drop 1 l) is) in
      rw (here, rest) refl

-- ---- a run that is marked
pub success_left : (t : ℕ) (run : Run) → ((marked_run mark.Success t run).state ≡ run_state.Success) × All (λ (x : Instance). x.state ≡ task_state.Success) (marked_run mark.Success t run).instances
success_left t run =
    (refl, All-map (λ (x : Instance). x.state ≡ task_state.Success) (succeeded_instance t) run.instances (λ k d inside. succeeded t (get_or run.instances k d)))

pub others_stay : (runs : List Run) (number : ℕ) (said : Mark) (t place : ℕ) (d : Run) → place < length runs → is_numbered number (get_or runs place d) ≡ false → get_or (with_marked runs number said t) place d ≡ get_or runs place d
others_stay runs number said t place d inside other =
    get_or-map (λ (run : Run). cond (is_numbered number run) (marked_run said t run) run) runs place d d inside ∙ rw other refl

pub marked_same : (said : Mark) (t : ℕ) (run : Run) → is_marked said run ≡ true → marked_run said t run ≡ run
marked_same said t run is =
    let parts = both (is_in_state said run) (list_all (λ (x : Instance). stays_in said x.state) run.instances) is in
    let state = sym (same_run_state_is run.state (marked_state said) parts.0) in
    let instances = all_stay said t run.instances parts.1 in
    rw parts.0 (λ i. record run { state = state i; instances = instances i })

pub same_marked : (said : Mark) (t : ℕ) (run : Run) → marked_run said t run ≡ run → is_marked said run ≡ true
same_marked said t run is =
    let here : is_in_state said run ≡ true = same_run_state_self run.state (marked_state said) (sym (ap (λ (r : Run). r.state) is)) in
    let rest : list_all (λ (x : Instance). stays_in said x.state) run.instances ≡ true = all_stayed said t run.instances (ap (λ (r : Run). r.instances) is) in
    rw (here, rest) refl

none_held : (f : Instance → Instance) → ((x : Instance) → is_held (f x).state ≡ false) → (xs : List Instance) → list_any (λ (x : Instance). is_held x.state) (map f xs) ≡ false
none_held f none [] = refl
none_held f none (x ∷ xs) = rw (none x, none_held f none xs) refl

pub not_busy : (said : Mark) (t : ℕ) (run : Run) → is_finished (marked_state said) ≡ true → is_busy (marked_run said t run) ≡ false
not_busy mark.Success t run ended = none_held (succeeded_instance t) (λ x. ap is_held (succeeded t x)) run.instances
not_busy mark.Failed t run ended = none_held (stopped_instance t) (λ x. ended_holds_none (stopped_instance t x).state (stopped t x)) run.instances
not_busy mark.Queued t run ended = absurd (cc)

-- ---- instances that are cleared
left_alone : (o : Option ℕ) (x : Instance) → is_some o ≡ false → option_map_or (λ retries. cleared_instance retries x) o x ≡ x
left_alone None x none = refl
left_alone (Some retries) x none = absurd (cc)

without_state : (o : Option ℕ) (x : Instance) → is_some o ≡ true → (option_map_or (λ retries. cleared_instance retries x) o x).state ≡ task_state.NoStatus
without_state None x is = absurd (cc)
without_state (Some retries) x is = refl

pub chosen_alone : (selection : Selection) (run : Run) → TouchesChosenAlone selection run
chosen_alone selection run = record {
  count = length-map (enumerate_from 0 run.instances) (after_clear selection) ∙ length-enumerate_from 0 run.instances;
  others = λ place d inside no. enumerated-at (after_clear selection) run.instances place d inside ∙ left_alone (chosen_with selection (place, get_or run.instances place d)) (get_or run.instances place d) no;
  chosen = λ place d inside is. ap (λ (x : Instance). x.state) (enumerated-at (after_clear selection) run.instances place d inside) ∙ without_state (chosen_with selection (place, get_or run.instances place d)) (get_or run.instances place d) is;
  runs = λ asked no. rw no refl;
}

empty_parts : {X : Type 0} (xs ys : List X) → xs ++ ys ≡ [] → (xs ≡ []) × (ys ≡ [])
empty_parts [] ys is = (refl, is)
empty_parts (x ∷ xs) ys is = absurd (cc)

cons_nil : {X : Type 0} (x : X) (xs : List X) → x ∷ xs ≡ [] → ⊥
cons_nil x xs is = absurd (cc)

none_chosen : {X : Type 0} (selection : Selection) (f : ℕ × Instance → X) (n : ℕ) (xs : List Instance) → map f (filter (is_chosen selection) (enumerate_from n xs)) ≡ [] → (list_any (is_chosen selection) (enumerate_from n xs) ≡ false) × (map (after_clear selection) (enumerate_from n xs) ≡ xs)
none_chosen selection f n [] none = (refl, refl)
none_chosen selection f n (x ∷ xs) none =
    ⊎_elim
    (λ (is : is_chosen selection (n, x) ≡ true). absurd (cons_nil (f (n, x)) (map f (filter (is_chosen selection) (enumerate_from (n + 1) xs))) (rw is at none)))
    (λ (no : is_chosen selection (n, x) ≡ false).
    let rest = none_chosen selection f (n + 1) xs (rw no at none) in
    let here = left_alone (chosen_with selection (n, x)) x no in
    let tail = rest.1 in
    (rw (no, rest.0) refl, λ i. here i ∷ tail i))
    (cases_Bool (is_chosen selection (n, x)))

pub left_whole : (selection : Selection) (run : Run) → chosen_of selection run ≡ [] → cleared_run selection run ≡ run
left_whole selection run none =
    let left = none_chosen selection (λ (row : ℕ × Instance). record { run = run; place = row.0 }) 0 run.instances none in
    let instances = left.1 in
    let stays_ended : is_requeued selection run ≡ false = neither (is_finished run.state) (list_any (is_chosen selection) (enumerate_from 0 run.instances)) left.0 in
    rw stays_ended (λ i. record run { instances = instances i })

pub none_cleared : (runs : List Run) (asked : RunFilter) (selection : Selection) → chosen_in runs asked selection ≡ [] → with_cleared runs asked selection ≡ runs
none_cleared [] asked selection none = refl
none_cleared (run ∷ runs) asked selection none =
    ⊎_elim
    (λ (is : admits asked run ≡ true).
    let parts = empty_parts (chosen_of selection run) (flat_map (chosen_of selection) (filter (admits asked) runs)) (rw is at none) in
    let here : run_after asked selection run ≡ run = rw is (left_whole selection run parts.0) in
    let rest = none_cleared runs asked selection parts.1 in
    λ i. here i ∷ rest i)
    (λ (no : admits asked run ≡ false).
    let here : run_after asked selection run ≡ run = rw no refl in
    let rest = none_cleared runs asked selection (rw no at none) in
    λ i. here i ∷ rest i)
    (cases_Bool (admits asked run))

-- ---- a run that is taken out
found_without : (p : Run → Bool) (runs : List Run) → find p (filter (λ run. not (p run)) runs) ≡ None
found_without p [] = refl
found_without p (run ∷ runs) =
    let rest = found_without p runs in
    ⊎_elim
    (λ (is : p run ≡ true). rw is rest)
    (λ (no : p run ≡ false). rw no (rw no rest))
    (cases_Bool (p run))

number_is : (n m : ℕ) → (n == m) ≡ true → n ≡ m
number_is n m same = grind (arith, nat_tests)

below_next : (runs : List Run) (number next : ℕ) (run : Run) → All (λ (r : Run). r.number < next) runs → run_at runs number ≡ Some run → number < next
below_next [] number next run below is = absurd (cc)
below_next (r ∷ runs) number next run below is =
    ⊎_elim
    (λ (same : is_numbered number r ≡ true). let here : r.number < next = below 0 r (omega arith) in let equal = number_is r.number number same in omega (arith, here, equal))
    (λ (other : is_numbered number r ≡ false). below_next runs number next run (λ k d inside. below (suc k) d (omega arith)) (rw other at is))
    (cases_Bool (is_numbered number r))

pub stay_away : (old new : RunRows) (number : ℕ) (run : Run) → AreRuns old.rows old.next → run_at old.rows number ≡ Some run → new ≡ record old { rows = without_run old.rows number } → (run_at new.rows number ≡ None) × ((after : RunRows) (added : NewRun) (other : ℕ) → Adds new after added other → other ≢ number)
stay_away old new number run are there is = (
  ap (λ (r : RunRows). run_at r.rows number) is ∙ found_without (is_numbered number) old.rows,
  λ after added other adds same.
      let below = below_next old.rows number old.next run are.numbered there in
      let next : new.next ≡ old.next = ap (λ (r : RunRows). r.next) is in
      absurd (omega (arith, adds.next_number, below, next, same)),
)
