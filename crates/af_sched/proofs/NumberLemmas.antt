-- A tick gives numbers from the next one on: none that was given before it comes again.
use Rattle.std.proofs.Common.{◌≡◌, ◌<◌, ◌≤◌, ◌∙◌, ◌==◌, ℕ, List, [], ◌∷◌, ◌++◌, refl, sym, ap, subst, arith, Bool, true, false, Some, None, ⊎_elim}
use Rattle.std.specs.Prelude.{is_none}
use Rattle.std.proofs.lemmas.Bool.{cases_Bool}
use Rattle.std.proofs.lemmas.Bool.Decides.{nat_tests}
use Rattle.af_runs.specs.Runs.{add_fault, is_numbered, queued_run, run_at}
use Rattle.af_runs.specs.declared.new_run.NewRun.{NewRun}
use Rattle.af_runs.specs.declared.run.Run.{Run}
use Rattle.af_sched.specs.Create.{created, runs_of_row, with_run, with_runs_of}
use Rattle.af_sched.specs.State.{StateRows}
use Rattle.af_sched.specs.Tick.{IsTick}
use Rattle.af_sched.proofs.EndedLemmas.{fold_keeps}
use Rattle.af_sched.proofs.KeyLemmas.{Keeps, keeps_finished, keeps_queued, keeps_settled_too, keeps_trans}

-- ---- no run has the number
gone_keeps : (number : ℕ) (xs ys : List Run) → Keeps xs ys → run_at xs number ≡ None → run_at ys number ≡ None
gone_keeps number [] [] keeps none = none
gone_keeps number [] (y ∷ ys) keeps none = absurd keeps
gone_keeps number (x ∷ xs) [] keeps none = absurd keeps
gone_keeps number (x ∷ xs) (y ∷ ys) keeps none =
    let here : is_numbered number y ≡ is_numbered number x = ap (λ (run : Run). is_numbered number run) keeps.0 in
    ⊎_elim
    (λ (is : is_numbered number x ≡ true). let found : Some x ≡ None = rw is at none in absurd (cc))
    (λ (no : is_numbered number x ≡ false). rw (here, no) (gone_keeps number xs ys keeps.1 (rw no at none)))
    (cases_Bool (is_numbered number x))

differs : (n m : ℕ) → m < n → (n == m) ≡ false
differs n m below = grind (arith, nat_tests)

gone_more : (number : ℕ) (xs : List Run) (last : Run) → number < last.number → run_at xs number ≡ None → run_at (xs ++ last ∷ []) number ≡ None
gone_more number [] last below none = rw (differs last.number number below) refl
gone_more number (x ∷ xs) last below none =
    ⊎_elim
    (λ (is : is_numbered number x ≡ true). let found : Some x ≡ None = rw is at none in absurd (cc))
    (λ (no : is_numbered number x ≡ false). rw no (gone_more number xs last below (rw no at none)))
    (cases_Bool (is_numbered number x))

-- ---- the first phase
-- the number that the next run gets is no less, and no run has this one
abbrev pub StaysAway : ℕ → ℕ → StateRows → Type 0
StaysAway low number state = (low ≤ state.next_run) × (run_at state.runs number ≡ None)

pub grows_run : (low : ℕ) (state : StateRows) (new : NewRun) → low ≤ state.next_run → low ≤ (with_run state new).next_run
grows_run low state new least = by (is_none (add_fault state.runs state.next_run new.dag_id new.run_id new.logical_date)) refl
  where
    by : (b : Bool) → is_none (add_fault state.runs state.next_run new.dag_id new.run_id new.logical_date) ≡ b → low ≤ (with_run state new).next_run
    by true is = rw is (omega (arith, least))
    by false is = rw is least

away_run : (low number : ℕ) → number < low → (state : StateRows) (new : NewRun) → StaysAway low number state → StaysAway low number (with_run state new)
away_run low number below state new away = by (is_none (add_fault state.runs state.next_run new.dag_id new.run_id new.logical_date)) refl
  where
    by : (b : Bool) → is_none (add_fault state.runs state.next_run new.dag_id new.run_id new.logical_date) ≡ b → StaysAway low number (with_run state new)
    by true is = rw is (omega (arith, away.0), gone_more number state.runs (queued_run state.next_run new) (omega (arith, below, away.0)) away.1)
    by false is = rw is away

grows_created : (t : ℕ) (old : StateRows) → old.next_run ≤ (created t old).next_run
grows_created t old =
    fold_keeps (λ (s : StateRows). old.next_run ≤ s.next_run) (with_runs_of t) (λ s row here. fold_keeps (λ (r : StateRows). old.next_run ≤ r.next_run) with_run (λ r new there. grows_run old.next_run r new there) s (runs_of_row t row) here) old old.dags (omega arith)

away_created : (t : ℕ) (old : StateRows) (number : ℕ) → number < old.next_run → run_at old.runs number ≡ None → run_at (created t old).runs number ≡ None
away_created t old number below none =
    let away = fold_keeps (StaysAway old.next_run number) (with_runs_of t) (λ s row here. fold_keeps (StaysAway old.next_run number) with_run (λ r new there. away_run old.next_run number below r new there) s (runs_of_row t row) here) old old.dags (omega arith, none) in
    away.1

-- ---- the others
keeps_tick : (t : ℕ) (old new : StateRows) → IsTick t old new → Keeps (created t old).runs new.runs
keeps_tick t old new tick =
    let before : StateRows = created t old in
    let settled : StateRows = tick.settled in
    let queued : StateRows = tick.queued in
    keeps_trans before.runs settled.runs new.runs (keeps_settled_too t before.dags before.runs settled.runs tick.settles.runs)
    (keeps_trans settled.runs queued.runs new.runs (subst (λ (s : StateRows). Keeps settled.runs s.runs) (sym tick.queues.state) (keeps_queued tick.queues.is_queued settled.runs))
    (subst (λ (s : StateRows). Keeps queued.runs s.runs) (sym tick.ends) (keeps_finished t queued.dags queued.runs)))

next_tick : (t : ℕ) (old new : StateRows) → IsTick t old new → new.next_run ≡ (created t old).next_run
next_tick t old new tick =
    ap (λ (s : StateRows). s.next_run) tick.ends ∙ ap (λ (s : StateRows). s.next_run) tick.queues.state ∙ ap (λ (s : StateRows). s.next_run) tick.settles.rest

pub tick_gives_new_numbers : (t : ℕ) (old new : StateRows) → IsTick t old new → (old.next_run ≤ new.next_run) × ((number : ℕ) → number < old.next_run → run_at old.runs number ≡ None → run_at new.runs number ≡ None)
tick_gives_new_numbers t old new tick = (
  let grows = grows_created t old in let next = next_tick t old new tick in omega (arith, grows, next),
  λ number below none. gone_keeps number (created t old).runs new.runs (keeps_tick t old new tick) (away_created t old number below none),
)
