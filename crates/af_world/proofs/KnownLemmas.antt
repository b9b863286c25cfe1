-- Whether two states have the same runs, pools and variables can be told.
use Rattle.std.proofs.Common.{◌≡◌, ◌∙◌, ◌⊎◌, inl, inr, refl, sym, ap, ℕ, List, [], ◌∷◌, Bool, true, false, ◌==◌}
use Rattle.std.specs.Prelude.{Option, Some, None, slice_get, unwrap_or}
use Rattle.std.specs.Bool.{Decides}
use Rattle.std.proofs.lemmas.Bool.Decides.{Decides-eqb}
use Rattle.std.proofs.lemmas.Bool.{false≢true}
use Rattle.af_graph.specs.States.{state_rank}
use Rattle.af_graph.specs.declared.task_state.TaskState.{TaskState}
use Rattle.af_graph.specs.declared.task_state.TaskState.TheVariants as task_state
use Rattle.af_pool.specs.declared.pool.Pool.{Pool}
use Rattle.af_runs.specs.Marks.{run_state_rank}
use Rattle.af_runs.specs.declared.instance.Instance.{Instance}
use Rattle.af_runs.specs.declared.interval.Interval.{Interval}
use Rattle.af_runs.specs.declared.run.Run.{Run}
use Rattle.af_runs.specs.declared.run_state.RunState.{RunState}
use Rattle.af_runs.specs.declared.run_state.RunState.TheVariants as run_state
use Rattle.af_runs.specs.declared.run_type.RunType.{RunType}
use Rattle.af_runs.specs.declared.run_type.RunType.TheVariants as run_type
use Rattle.af_vars.specs.declared.variable.Variable.{Variable}

-- it is so, or it is not
abbrev pub Known : Type 0 → Type 0
Known P = P ⊎ (P → ⊥)

pub known_as : {P Q : Type 0} → (P → Q) → (Q → P) → Known P → Known Q
known_as to from (inl is) = inl (to is)
known_as to from (inr not) = inr (λ is. not (from is))

pub known_both : {P Q : Type 0} → Known P → Known Q → Known (P × Q)
known_both (inl one) (inl other) = inl (one, other)
known_both (inl one) (inr not) = inr (λ both. not both.1)
known_both (inr not) other = inr (λ both. not both.0)

pub known_number : (a b : ℕ) → Known (a ≡ b)
known_number a b = by (a == b) (Decides-eqb a b)
  where
    by : (same : Bool) → Decides same (a ≡ b) → Known (a ≡ b)
    by true is = inl (is.0 refl)
    by false is = inr (λ same. false≢true (is.1 same))

pub known_list : {X : Type 0} → ((x y : X) → Known (x ≡ y)) → (xs ys : List X) → Known (xs ≡ ys)
known_list known [] [] = inl refl
known_list known [] (y ∷ ys) = inr (λ is. cc)
known_list known (x ∷ xs) [] = inr (λ is. cc)
known_list known (x ∷ xs) (y ∷ ys) =
    known_as (λ both i. both.0 i ∷ both.1 i) (λ is. (head is, tail is)) (known_both (known x y) (known_list known xs ys))
  where
    head : x ∷ xs ≡ y ∷ ys → x ≡ y
    head is = cc

    tail : x ∷ xs ≡ y ∷ ys → xs ≡ ys
    tail is = cc

pub known_option : {X : Type 0} → ((x y : X) → Known (x ≡ y)) → (a b : Option X) → Known (a ≡ b)
known_option known None None = inl refl
known_option known None (Some y) = inr (λ is. cc)
known_option known (Some x) None = inr (λ is. cc)
known_option known (Some x) (Some y) = known_as (ap Some) (λ is. under is) (known x y)
  where
    under : Some x ≡ Some y → x ≡ y
    under is = cc

-- by a number that tells which one it is
known_by : {X : Type 0} (rank : X → ℕ) (of : ℕ → X) → ((x : X) → of (rank x) ≡ x) → (x y : X) → Known (x ≡ y)
known_by rank of back x y = known_as (λ same. sym (back x) ∙ ap of same ∙ back y) (ap rank) (known_number (rank x) (rank y))

task_of : ℕ → TaskState
task_of n =
    unwrap_or (slice_get (task_state.NoStatus ∷ task_state.Scheduled ∷ task_state.Queued ∷ task_state.Running ∷ task_state.Success ∷ task_state.Failed ∷ task_state.Skipped ∷ task_state.UpstreamFailed ∷ task_state.UpForRetry ∷ []) n) task_state.NoStatus

task_back : (x : TaskState) → task_of (state_rank x) ≡ x
unfolding task_of
task_back task_state.NoStatus = refl
task_back task_state.Scheduled = refl
task_back task_state.Queued = refl
task_back task_state.Running = refl
task_back task_state.Success = refl
task_back task_state.Failed = refl
task_back task_state.Skipped = refl
task_back task_state.UpstreamFailed = refl
task_back task_state.UpForRetry = refl

run_of : ℕ → RunState
run_of n = unwrap_or (slice_get (run_state.Queued ∷ run_state.Running ∷ run_state.Success ∷ run_state.Failed ∷ []) n) run_state.Queued

run_back : (x : RunState) → run_of (run_state_rank x) ≡ x
unfolding run_of
run_back run_state.Queued = refl
run_back run_state.Running = refl
run_back run_state.Success = refl
run_back run_state.Failed = refl

type_rank : RunType → ℕ
type_rank run_type.Manual = 0
type_rank run_type.Scheduled = 1
type_rank run_type.Backfill = 2

type_of : ℕ → RunType
type_of n = unwrap_or (slice_get (run_type.Manual ∷ run_type.Scheduled ∷ run_type.Backfill ∷ []) n) run_type.Manual

type_back : (x : RunType) → type_of (type_rank x) ≡ x
unfolding type_rank type_of
type_back run_type.Manual = refl
type_back run_type.Scheduled = refl
type_back run_type.Backfill = refl

pub known_text : (xs ys : List ℕ) → Known (xs ≡ ys)
known_text xs ys = known_list known_number xs ys

pub known_moment : (a b : Option ℕ) → Known (a ≡ b)
known_moment a b = known_option known_number a b

known_instance : (x y : Instance) → Known (x ≡ y)
known_instance x y =
    known_as
    (λ all i. record { state = all.0 i; try_number = all.1.0 i; max_tries = all.1.1.0 i; start_date = all.1.1.1.0 i; end_date = all.1.1.1.1.0 i; retry_at = all.1.1.1.1.1 i })
    (λ is. (ap (λ (it : Instance). it.state) is, (ap (λ (it : Instance). it.try_number) is, (ap (λ (it : Instance). it.max_tries) is, (ap (λ (it : Instance). it.start_date) is, (ap (λ (it : Instance). it.end_date) is, ap (λ (it : Instance). it.retry_at) is))))))
    (known_both (known_by state_rank task_of task_back x.state y.state)
    (known_both (known_number x.try_number y.try_number)
    (known_both (known_number x.max_tries y.max_tries)
    (known_both (known_moment x.start_date y.start_date)
    (known_both (known_moment x.end_date y.end_date) (known_moment x.retry_at y.retry_at))))))

known_interval : (x y : Interval) → Known (x ≡ y)
known_interval x y =
    known_as (λ both i. record { start = both.0 i; end = both.1 i }) (λ is. (ap (λ (it : Interval). it.start) is, ap (λ (it : Interval). it.end) is))
    (known_both (known_number x.start y.start) (known_number x.end y.end))

known_run : (x y : Run) → Known (x ≡ y)
known_run x y =
    known_as
    (λ all i. record {
      number = all.0 i;
      logical_date = all.1.0 i;
      run_id = all.1.1.0 i;
      dag_id = all.1.1.1.0 i;
      interval = all.1.1.1.1.0 i;
      run_type = all.1.1.1.1.1.0 i;
      state = all.1.1.1.1.1.1.0 i;
      start_date = all.1.1.1.1.1.1.1.0 i;
      end_date = all.1.1.1.1.1.1.1.1.0 i;
      instances = all.1.1.1.1.1.1.1.1.1 i;
    })
    (λ is. (ap (λ (it : Run). it.number) is, (ap (λ (it : Run). it.logical_date) is, (ap (λ (it : Run). it.run_id) is, (ap (λ (it : Run). it.dag_id) is, (ap (λ (it : Run). it.interval) is, (ap (λ (it : Run). it.run_type) is, (ap (λ (it : Run). it.state) is, (ap (λ (it : Run). it.start_date) is, (ap (λ (it : Run). it.end_date) is, ap (λ (it : Run). it.instances) is))))))))))
    (known_both (known_number x.number y.number)
    (known_both (known_number x.logical_date y.logical_date)
    (known_both (known_text x.run_id y.run_id)
    (known_both (known_text x.dag_id y.dag_id)
    (known_both (known_interval x.interval y.interval)
    (known_both (known_by type_rank type_of type_back x.run_type y.run_type)
    (known_both (known_by run_state_rank run_of run_back x.state y.state)
    (known_both (known_moment x.start_date y.start_date)
    (known_both (known_moment x.end_date y.end_date) (known_list known_instance x.instances y.instances))))))))))

pub known_runs : (xs ys : List Run) → Known (xs ≡ ys)
known_runs xs ys = known_list known_run xs ys

known_pool : (x y : Pool) → Known (x ≡ y)
known_pool x y =
    known_as (λ both i. record { name = both.0 i; slots = both.1 i }) (λ is. (ap (λ (it : Pool). it.name) is, ap (λ (it : Pool). it.slots) is))
    (known_both (known_text x.name y.name) (known_number x.slots y.slots))

pub known_pools : (xs ys : List Pool) → Known (xs ≡ ys)
known_pools xs ys = known_list known_pool xs ys

known_variable : (x y : Variable) → Known (x ≡ y)
known_variable x y =
    known_as (λ both i. record { key = both.0 i; value = both.1 i }) (λ is. (ap (λ (it : Variable). it.key) is, ap (λ (it : Variable). it.value) is))
    (known_both (known_text x.key y.key) (known_text x.value y.value))

pub known_variables : (xs ys : List Variable) → Known (xs ≡ ys)
known_variables xs ys = known_list known_variable xs ys
