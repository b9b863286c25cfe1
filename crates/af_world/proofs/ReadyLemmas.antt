-- States that are ready stay so where runs or DAGs are changed, added or taken out.
use Rattle.std.proofs.Common.{◌≡◌, ◌<◌, ◌+◌, ◌∙◌, ℕ, List, [], ◌∷◌, ◌++◌, length, map, get_or, refl, sym, ap, subst, arith, zero, suc, Bool, true, false, cond, ⊎_elim}
use Rattle.std.specs.Prelude.{All, None, Some, Option, option_map, filter, is_none}
use Rattle.std.specs.List.{AllZip, IsDistinct, AllByRecursion}
use Rattle.std.specs.List.Sorted.{IsStrictlySortedBy}
use Rattle.std.specs.Ordering.{nat_cmp}
use Rattle.std.specs.Cmp.Lexicographic.{slice_cmp}
use Rattle.std.proofs.lemmas.Bool.{cases_Bool}
use Rattle.std.proofs.lemmas.List.Elements.{All-cons, All-filter}
use Rattle.af_graph.specs.Definition.{fault_of}
use Rattle.af_graph.specs.Graph.{same_name}
use Rattle.af_graph.specs.declared.dag_spec.DagSpec.{DagSpec}
use Rattle.af_runs.specs.declared.run.Run.{Run}
use Rattle.af_runs.specs.declared.run_fault.RunFault.{RunFault}
use Rattle.af_runs.specs.declared.run_state.RunState.TheVariants.{Queued}
use Rattle.af_runs.specs.declared.new_run.NewRun.{NewRun}
use Rattle.af_runs.specs.Runs.{AreRuns, add_fault, is_of, queued_run, same_date, same_ids}
use Rattle.af_runs.proofs.RunLemmas.{AreRuns-filter, AreRuns-push}
use Rattle.af_sched.specs.Create.{with_run}
use Rattle.af_sched.specs.State.{AreRows, IsWhole, StateRows, dag_of, is_of_id}
use Rattle.af_sched.specs.declared.dag_row.DagRow.{DagRow}
use Rattle.af_sched.proofs.StateLemmas.{AreRows-push}
use Rattle.af_world.specs.Ready.{IsReady}

-- ---- runs that keep their keys

-- what of a run no change touches
abbrev pub key_of : Run → Run
key_of run = record run { state = Queued; start_date = None; end_date = None; instances = [] }

abbrev pub Keeps : List Run → List Run → Type 0
Keeps old new = AllZip (λ one other. key_of other ≡ key_of one) old new

keeps_map : (f : Run → Run) → ((run : Run) → key_of (f run) ≡ key_of run) → (xs : List Run) → Keeps xs (map f xs)
keeps_map f same [] = tt
keeps_map f same (x ∷ xs) = (same x, keeps_map f same xs)

numbers_same : (xs ys : List Run) → Keeps xs ys → map (λ (run : Run). run.number) ys ≡ map (λ (run : Run). run.number) xs
numbers_same [] [] keeps = refl
numbers_same [] (y ∷ ys) keeps = absurd keeps
numbers_same (x ∷ xs) [] keeps = absurd keeps
numbers_same (x ∷ xs) (y ∷ ys) keeps = λ i. (keeps.0 i).number ∷ numbers_same xs ys keeps.1 i

key_at : (xs ys : List Run) → Keeps xs ys → (k : ℕ) (d : Run) → k < length ys → (k < length xs) × (key_of (get_or ys k d) ≡ key_of (get_or xs k d))
key_at [] [] keeps k d inside = absurd (omega arith)
key_at [] (y ∷ ys) keeps k d inside = absurd keeps
key_at (x ∷ xs) [] keeps k d inside = absurd keeps
key_at (x ∷ xs) (y ∷ ys) keeps zero d inside = (omega arith, keeps.0)
key_at (x ∷ xs) (y ∷ ys) keeps (suc k) d inside =
    let rest = key_at xs ys keeps.1 k d (omega arith) in (omega (arith, rest.0), rest.1)

numbers_all : (P : ℕ → Type 0) (xs ys : List Run) → Keeps xs ys → All (λ run. P run.number) xs → All (λ run. P run.number) ys
numbers_all P xs ys keeps all k d inside =
    let at = key_at xs ys keeps k d inside in subst P (sym (ap (λ (run : Run). run.number) at.1)) (all k d at.0)

module _ (same : Run → Run → Bool) (by_key : (one other : Run) → same (key_of one) (key_of other) ≡ same one other) where
  apart_keys : (x y : Run) → key_of y ≡ key_of x → (xs ys : List Run) → Keeps xs ys → AllByRecursion (λ z. same x z ≡ false) xs → AllByRecursion (λ z. same y z ≡ false) ys
  apart_keys x y is [] [] keeps all = tt
  apart_keys x y is [] (b ∷ ys) keeps all = absurd keeps
  apart_keys x y is (a ∷ xs) [] keeps all = absurd keeps
  apart_keys x y is (a ∷ xs) (b ∷ ys) keeps all =
      (sym (by_key y b) ∙ (λ i. same (is i) (keeps.0 i)) ∙ by_key x a ∙ all.0, apart_keys x y is xs ys keeps.1 all.1)

  distinct_keys : (xs ys : List Run) → Keeps xs ys → IsDistinct same xs → IsDistinct same ys
  unfolding IsDistinct
  distinct_keys [] [] keeps distinct = tt
  distinct_keys [] (y ∷ ys) keeps distinct = absurd keeps
  distinct_keys (x ∷ xs) [] keeps distinct = absurd keeps
  distinct_keys (x ∷ xs) (y ∷ ys) keeps distinct = (apart_keys x y keeps.0 xs ys keeps.1 distinct.0, distinct_keys xs ys keeps.1 distinct.1)

count_keys : (id : List ℕ) (xs ys : List Run) → Keeps xs ys → length (filter (is_of id) ys) ≡ length (filter (is_of id) xs)
count_keys id [] [] keeps = refl
count_keys id [] (y ∷ ys) keeps = absurd keeps
count_keys id (x ∷ xs) [] keeps = absurd keeps
count_keys id (x ∷ xs) (y ∷ ys) keeps =
    let here : is_of id y ≡ is_of id x = ap (λ (run : Run). is_of id run) keeps.0 in
    let rest = count_keys id xs ys keeps.1 in
    ⊎_elim (λ (is : is_of id x ≡ true). rw (here, is) (ap suc rest)) (λ (not : is_of id x ≡ false). rw (here, not) rest) (cases_Bool (is_of id x))

pub runs_keep : (old new : List Run) (next : ℕ) → Keeps old new → AreRuns old next → AreRuns new next
runs_keep old new next keeps are = record {
  in_order = subst (IsStrictlySortedBy nat_cmp) (sym (numbers_same old new keeps)) are.in_order;
  positive = numbers_all (λ n. 0 < n) old new keeps are.positive;
  numbered = numbers_all (λ n. n < next) old new keeps are.numbered;
  one_of_an_id = distinct_keys same_ids (λ one other. refl) old new keeps are.one_of_an_id;
  one_of_a_date = distinct_keys same_date (λ one other. refl) old new keeps are.one_of_a_date;
  bounded = λ id. let same = count_keys id old new keeps in let few = are.bounded id in omega (arith, same, few);
}

-- ---- runs that are whole

whole_map : (dags : List DagRow) (f : Run → Run) → ((run : Run) → IsWhole dags run → IsWhole dags (f run)) → (xs : List Run) → All (IsWhole dags) xs → All (IsWhole dags) (map f xs)
whole_map dags f kept [] whole k d inside = absurd (omega arith)
whole_map dags f kept (x ∷ xs) whole zero d inside = kept x (whole 0 x (omega arith))
whole_map dags f kept (x ∷ xs) whole (suc k) d inside = whole_map dags f kept xs (λ j e low. whole (suc j) e (omega arith)) k d (omega arith)

pub with_whole : (dags : List DagRow) (was runs : List Run) → All (IsWhole dags) runs → AreRows dags was → AreRows dags runs
with_whole dags was runs whole are = record { in_order = are.in_order; few = are.few; sound = are.sound; whole = whole }

-- a change of a run that keeps its key and the number of its instances
pub record IsInPlace (f : Run → Run) : Type 0 where
  pub key : (run : Run) → key_of (f run) ≡ key_of run
  pub long : (run : Run) → length (f run).instances ≡ length run.instances

-- a change of some runs alone
pub some_in_place : (p : Run → Bool) (f : Run → Run) → IsInPlace f → IsInPlace (λ run. cond (p run) (f run) run)
some_in_place p f is = record { key = λ run. key (p run) run; long = λ run. long (p run) run }
  where
    key : (b : Bool) (run : Run) → key_of (cond b (f run) run) ≡ key_of run
    key true run = is.key run
    key false run = refl

    long : (b : Bool) (run : Run) → length (cond b (f run) run).instances ≡ length run.instances
    long true run = is.long run
    long false run = refl

pub ready_runs : (state : StateRows) (f : Run → Run) → IsInPlace f → IsReady state → IsReady (record state { runs = map f state.runs })
ready_runs state f at ready = record {
  is = record {
    rows = with_whole state.dags state.runs (map f state.runs)
        (whole_map state.dags f (λ run is. ap (λ (key : Run). option_map (λ (row : DagRow). length row.dag.tasks) (dag_of state.dags key.dag_id)) (at.key run) ∙ is ∙ ap Some (sym (at.long run))) state.runs ready.is.rows.whole)
        ready.is.rows;
    runs = runs_keep state.runs (map f state.runs) state.next_run (keeps_map f at.key state.runs) ready.is.runs;
  };
  next = ready.next;
}

pub ready_fewer : (state : StateRows) (p : Run → Bool) → IsReady state → IsReady (record state { runs = filter p state.runs })
ready_fewer state p ready = record {
  is = record {
    rows = with_whole state.dags state.runs (filter p state.runs) (All-filter p (IsWhole state.dags) state.runs ready.is.rows.whole) ready.is.rows;
    runs = AreRuns-filter p state.runs state.next_run ready.is.runs;
  };
  next = ready.next;
}

-- one run more, which meets no fault
pub ready_added : (state : StateRows) (new : NewRun) → option_map (λ (row : DagRow). length row.dag.tasks) (dag_of state.dags new.dag_id) ≡ Some (length new.instances) → add_fault state.runs state.next_run new.dag_id new.run_id new.logical_date ≡ None → IsReady state → IsReady (record state { runs = state.runs ++ queued_run state.next_run new ∷ []; next_run = state.next_run + 1 })
ready_added state new whole none ready = record {
  is = record {
    rows = AreRows-push state.dags state.runs (queued_run state.next_run new) whole ready.is.rows;
    runs = AreRuns-push state.runs state.next_run new ready.next none ready.is.runs;
  };
  next = omega arith;
}

-- one run more, unless its id or its date is taken, or its DAG is at its limit
pub ready_more : (state : StateRows) (new : NewRun) → option_map (λ (row : DagRow). length row.dag.tasks) (dag_of state.dags new.dag_id) ≡ Some (length new.instances) → IsReady state → IsReady (with_run state new)
ready_more state new whole ready = by (add_fault state.runs state.next_run new.dag_id new.run_id new.logical_date) refl
  where
    by : (fault : Option RunFault) → add_fault state.runs state.next_run new.dag_id new.run_id new.logical_date ≡ fault → IsReady (cond (is_none fault) (record state { runs = state.runs ++ queued_run state.next_run new ∷ []; next_run = state.next_run + 1 }) state)
    by (Some why) is = ready
    by None is = ready_added state new whole is ready

-- ---- DAGs of which no definition is changed

abbrev SameDags : List DagRow → List DagRow → Type 0
SameDags old new = AllZip (λ one other. other.dag ≡ one.dag) old new

dags_map : (g : DagRow → DagRow) → ((row : DagRow) → (g row).dag ≡ row.dag) → (dags : List DagRow) → SameDags dags (map g dags)
dags_map g same [] = tt
dags_map g same (row ∷ dags) = (same row, dags_map g same dags)

tasks_same : (old new : List DagRow) → SameDags old new → (id : List ℕ) → option_map (λ (row : DagRow). length row.dag.tasks) (dag_of new id) ≡ option_map (λ (row : DagRow). length row.dag.tasks) (dag_of old id)
tasks_same [] [] same id = refl
tasks_same [] (y ∷ ys) same id = absurd same
tasks_same (x ∷ xs) [] same id = absurd same
tasks_same (x ∷ xs) (y ∷ ys) same id =
    let here : is_of_id id y ≡ is_of_id id x = ap (λ (dag : DagSpec). same_name dag.dag_id id) same.0 in
    let rest = tasks_same xs ys same.1 id in
    ⊎_elim
    (λ (is : is_of_id id x ≡ true). rw (here, is) (ap (λ (dag : DagSpec). Some (length dag.tasks)) same.0))
    (λ (other : is_of_id id x ≡ false). rw (here, other) rest)
    (cases_Bool (is_of_id id x))

ids_same : (old new : List DagRow) → SameDags old new → map (λ (row : DagRow). row.dag.dag_id) new ≡ map (λ (row : DagRow). row.dag.dag_id) old
ids_same [] [] same = refl
ids_same [] (y ∷ ys) same = absurd same
ids_same (x ∷ xs) [] same = absurd same
ids_same (x ∷ xs) (y ∷ ys) same = λ i. (same.0 i).dag_id ∷ ids_same xs ys same.1 i

long_same : (old new : List DagRow) → SameDags old new → length new ≡ length old
long_same [] [] same = refl
long_same [] (y ∷ ys) same = absurd same
long_same (x ∷ xs) [] same = absurd same
long_same (x ∷ xs) (y ∷ ys) same = ap suc (long_same xs ys same.1)

sound_same : (old new : List DagRow) → SameDags old new → All (λ row. fault_of row.dag.tasks ≡ None) old → All (λ row. fault_of row.dag.tasks ≡ None) new
sound_same [] [] same sound = sound
sound_same [] (y ∷ ys) same sound = absurd same
sound_same (x ∷ xs) [] same sound = absurd same
sound_same (x ∷ xs) (y ∷ ys) same sound =
    All-cons (λ (row : DagRow). fault_of row.dag.tasks ≡ None) y ys (ap (λ dag. fault_of dag.tasks) same.0 ∙ sound 0 x (omega arith)) (sound_same xs ys same.1 (λ j e low. sound (suc j) e (omega arith)))

rows_same : (old new : List DagRow) (runs : List Run) → SameDags old new → AreRows old runs → AreRows new runs
rows_same old new runs same are = record {
  in_order = subst (IsStrictlySortedBy (slice_cmp nat_cmp)) (sym (ids_same old new same)) are.in_order;
  few = let long = long_same old new same in let few = are.few in omega (arith, long, few);
  sound = sound_same old new same are.sound;
  whole = λ k d inside. tasks_same old new same (get_or runs k d).dag_id ∙ are.whole k d inside;
}

pub ready_dags : (state : StateRows) (g : DagRow → DagRow) → ((row : DagRow) → (g row).dag ≡ row.dag) → IsReady state → IsReady (record state { dags = map g state.dags })
ready_dags state g same ready = record {
  is = record { rows = rows_same state.dags (map g state.dags) state.runs (dags_map g same state.dags) ready.is.rows; runs = ready.is.runs };
  next = ready.next;
}
