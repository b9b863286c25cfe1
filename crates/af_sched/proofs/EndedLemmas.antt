-- A run that has ended keeps its state and its dates through a tick.
use Rattle.std.proofs.Common.{◌≡◌, ◌∙◌, ℕ, List, [], ◌∷◌, map, fold, refl, sym, ap, subst, arith, zero, suc, Bool, true, false, cond}
use Rattle.std.specs.Prelude.{Contains, MatchBool, is_none}
use Rattle.std.specs.List.{AllZip}
use Rattle.std.proofs.lemmas.Bool.{false≢true}
use Rattle.std.proofs.lemmas.List.Elements.{Contains-append_left}
use Rattle.af_runs.specs.Runs.{add_fault, is_finished, queued_run}
use Rattle.af_runs.specs.declared.new_run.NewRun.{NewRun}
use Rattle.af_runs.specs.declared.run.Run.{Run}
use Rattle.af_runs.specs.declared.run_state.RunState.{RunState}
use Rattle.af_runs.specs.declared.run_state.RunState.TheVariants.{Queued, Running, Success, Failed}
use Rattle.af_sched.specs.Create.{created, runs_of_row, with_run, with_runs_of}
use Rattle.af_sched.specs.Finish.{ends, finished_run}
use Rattle.af_sched.specs.Moves.{finished_runs}
use Rattle.af_sched.specs.Queue.{with_queued}
use Rattle.af_sched.specs.Settle.{SettlesIfLive, SettlesRun, is_live}
use Rattle.af_sched.specs.Start.{starts, started_run, started_runs}
use Rattle.af_sched.specs.State.{StateRows, tasks_of}
use Rattle.af_sched.specs.Tick.{IsTick}
use Rattle.af_sched.specs.declared.dag_row.DagRow.{DagRow}

-- a run that has ended is the same but for its instances
abbrev pub Stays : Run → Run → Type 0
Stays run later = is_finished run.state ≡ true → later ≡ record run { instances = later.instances }

stays_trans : (a b c : Run) → Stays a b → Stays b c → Stays a c
stays_trans a b c first second ended =
    let same = first ended in
    second (ap (λ (run : Run). is_finished run.state) same ∙ ended) ∙ ap (λ (run : Run). record run { instances = c.instances }) same

-- ---- the rows of a list that are kept in their places
zip_at : (R : Run → Run → Type 0) (xs ys : List Run) → AllZip R xs ys → (run : Run) → Contains xs run → (later : Run) × Contains ys later × R run later
zip_at R [] ys all run has = absurd (omega (arith, has.1))
zip_at R (x ∷ xs) [] all run has = absurd all
zip_at R (x ∷ xs) (y ∷ ys) all run (zero, low, is) = (y, (zero, omega arith, refl), subst (λ (r : Run). R r y) is all.0)
zip_at R (x ∷ xs) (y ∷ ys) all run (suc k, low, is) =
    let rest = zip_at R xs ys all.1 run (k, omega arith, is) in
    (rest.0, (suc rest.1.0, omega (arith, rest.1.1), rest.1.2), rest.2)

stays_map : (f : Run → Run) → ((run : Run) → Stays run (f run)) → (xs : List Run) → AllZip Stays xs (map f xs)
stays_map f stays [] = tt
stays_map f stays (x ∷ xs) = (stays x, stays_map f stays xs)

-- ---- the phases
pub starts_no_ended : (dags : List DagRow) (runs : List Run) (run : Run) → is_finished run.state ≡ true → starts dags runs run ≡ false
starts_no_ended dags runs run ended = by run.state refl
  where
    by : (state : RunState) → run.state ≡ state → starts dags runs run ≡ false
    by Queued is = absurd (false≢true (sym (ap is_finished is) ∙ ended))
    by Running is = rw is refl
    by Success is = rw is refl
    by Failed is = rw is refl

stays_started : (t : ℕ) (dags : List DagRow) (runs : List Run) (run : Run) → Stays run (cond (starts dags runs run) (started_run t run) run)
stays_started t dags runs run ended = rw (starts_no_ended dags runs run ended) refl

live_no_ended : (dags : List DagRow) (run : Run) → is_finished run.state ≡ true → is_live dags run ≡ false
live_no_ended dags run ended = by run.state refl
  where
    by : (state : RunState) → run.state ≡ state → is_live dags run ≡ false
    by Queued is = rw is refl
    by Running is = absurd (false≢true (sym (ap is_finished is) ∙ ended))
    by Success is = rw is refl
    by Failed is = rw is refl

stays_settled : (t : ℕ) (dags : List DagRow) (xs ys : List Run) → AllZip (SettlesIfLive t dags) xs ys → AllZip Stays xs ys
stays_settled t dags [] [] all = tt
stays_settled t dags [] (y ∷ ys) all = absurd all
stays_settled t dags (x ∷ xs) [] all = absurd all
stays_settled t dags (x ∷ xs) (y ∷ ys) all = (here (is_live dags x) all.0, stays_settled t dags xs ys all.1)
  where
    here : (b : Bool) → MatchBool b (SettlesRun t (tasks_of dags x.dag_id) x y) (y ≡ x) → Stays x y
    here true is ended = is.rest
    here false is ended = is ∙ ap (λ (run : Run). record x { instances = run.instances }) (sym is)

pub ends_no_ended : (run : Run) → is_finished run.state ≡ true → ends run ≡ false
ends_no_ended run ended = by run.state refl
  where
    by : (state : RunState) → run.state ≡ state → ends run ≡ false
    by Queued is = rw is refl
    by Running is = absurd (false≢true (sym (ap is_finished is) ∙ ended))
    by Success is = rw is refl
    by Failed is = rw is refl

stays_finished : (t : ℕ) (dags : List DagRow) (run : Run) → Stays run (finished_run t (tasks_of dags run.dag_id) run)
stays_finished t dags run ended = rw (ends_no_ended run ended) refl

-- ---- runs are only added
pub fold_keeps : {S X : Type 0} (P : S → Type 0) (f : S → X → S) → ((s : S) (x : X) → P s → P (f s x)) → (s : S) (xs : List X) → P s → P (fold f s xs)
fold_keeps P f step s [] holds = holds
fold_keeps P f step s (x ∷ xs) holds = fold_keeps P f step (f s x) xs (step s x holds)

has_after_run : (run : Run) (state : StateRows) (new : NewRun) → Contains state.runs run → Contains (with_run state new).runs run
has_after_run run state new has = by (is_none (add_fault state.runs state.next_run new.dag_id new.run_id new.logical_date)) refl
  where
    by : (b : Bool) → is_none (add_fault state.runs state.next_run new.dag_id new.run_id new.logical_date) ≡ b → Contains (with_run state new).runs run
    by true is = rw is (Contains-append_left state.runs (queued_run state.next_run new ∷ []) run has)
    by false is = rw is has

pub has_created : (t : ℕ) (old : StateRows) (run : Run) → Contains old.runs run → Contains (created t old).runs run
has_created t old run has =
    fold_keeps (λ (s : StateRows). Contains s.runs run) (with_runs_of t) (λ s row here. fold_keeps (λ (r : StateRows). Contains r.runs run) with_run (λ r new there. has_after_run run r new there) s (runs_of_row t row) here) old old.dags has

pub ended_runs_stay : (t : ℕ) (old new : StateRows) (run : Run) → IsTick t old new → Contains old.runs run → is_finished run.state ≡ true → (later : Run) × Contains new.runs later × (later ≡ record run { instances = later.instances })
ended_runs_stay t old new run tick has ended =
    let before : StateRows = created t old in
    let dags : List DagRow = before.dags in
    let one = zip_at Stays before.runs (started_runs t dags before.runs) (stays_map (λ r. cond (starts dags before.runs r) (started_run t r) r) (stays_started t dags before.runs) before.runs) run (has_created t old run has) in
    let two = zip_at Stays (started_runs t dags before.runs) tick.settled.runs (stays_settled t dags (started_runs t dags before.runs) tick.settled.runs tick.settles.runs) one.0 one.1 in
    let q = tick.queues.is_queued in
    let three = zip_at Stays tick.settled.runs (map (λ r. with_queued (q r.number) r) tick.settled.runs) (stays_map (λ r. with_queued (q r.number) r) (λ r done. refl) tick.settled.runs) two.0 two.1 in
    let there : Contains tick.queued.runs three.0 = subst (λ (s : StateRows). Contains s.runs three.0) (sym tick.queues.state) three.1 in
    let four = zip_at Stays tick.queued.runs (finished_runs t tick.queued.dags tick.queued.runs) (stays_map (λ r. finished_run t (tasks_of tick.queued.dags r.dag_id) r) (stays_finished t tick.queued.dags) tick.queued.runs) three.0 there in (
      four.0,
      subst (λ (s : StateRows). Contains s.runs four.0) (sym tick.ends) four.1,
      stays_trans run three.0 four.0 (stays_trans run two.0 three.0 (stays_trans run one.0 two.0 one.2 two.2) three.2) four.2 ended,
    )
