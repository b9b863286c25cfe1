-- The phases of a tick keep the numbers, ids and dates of runs, and leave them whole.
use Rattle.std.proofs.Common.{◌≡◌, ◌<◌, ◌+◌, ◌∙◌, ℕ, List, [], ◌∷◌, length, map, get_or, refl, sym, ap, subst, arith, zero, suc, Bool, true, false, cond, ⊎_elim}
use Rattle.std.specs.Prelude.{All, None, Some, option_map, MatchBool, filter}
use Rattle.std.specs.List.{AllZip, IsDistinct, AllByRecursion, enumerate_from}
use Rattle.std.specs.List.Sorted.{IsStrictlySortedBy}
use Rattle.std.specs.Ordering.{nat_cmp}
use Rattle.std.proofs.lemmas.Bool.{cases_Bool}
use Rattle.std.proofs.lemmas.List.Elements.{All-cons}
use Rattle.af_pool.specs.declared.pool.Pool.{Pool}
use Rattle.af_runs.specs.declared.instance.Instance.{Instance}
use Rattle.af_runs.specs.declared.run.Run.{Run}
use Rattle.af_runs.specs.declared.run_state.RunState.TheVariants.{Queued}
use Rattle.af_runs.specs.Runs.{AreRuns, is_of, same_ids, same_date}
use Rattle.af_sched.specs.Finish.{ends, ended_run, finished_run}
use Rattle.af_sched.specs.Moves.{MovesOn, finished_runs}
use Rattle.af_sched.specs.Queue.{queued_instance, with_queued, QueuesRuns}
use Rattle.af_sched.specs.Settle.{SettlesIfLive, SettlesRun, is_live}
use Rattle.af_sched.specs.Start.{starts, started_run, started_runs}
use Rattle.af_sched.specs.State.{IsWhole, dag_of, tasks_of}
use Rattle.af_sched.specs.declared.dag_row.DagRow.{DagRow}

-- what of a run no phase changes
abbrev pub key_of : Run → Run
key_of run = record run { state = Queued; start_date = None; end_date = None; instances = [] }

abbrev pub Keeps : List Run → List Run → Type 0
Keeps old new = AllZip (λ one other. key_of other ≡ key_of one) old new

pub keeps_trans : (xs ys zs : List Run) → Keeps xs ys → Keeps ys zs → Keeps xs zs
keeps_trans [] [] [] first second = tt
keeps_trans [] [] (z ∷ zs) first second = absurd second
keeps_trans [] (y ∷ ys) zs first second = absurd first
keeps_trans (x ∷ xs) [] zs first second = absurd first
keeps_trans (x ∷ xs) (y ∷ ys) [] first second = absurd second
keeps_trans (x ∷ xs) (y ∷ ys) (z ∷ zs) first second = (second.0 ∙ first.0, keeps_trans xs ys zs first.1 second.1)

keeps_map : (f : Run → Run) → ((run : Run) → key_of (f run) ≡ key_of run) → (xs : List Run) → Keeps xs (map f xs)
keeps_map f same [] = tt
keeps_map f same (x ∷ xs) = (same x, keeps_map f same xs)

keeps_settled : (t : ℕ) (dags : List DagRow) (xs ys : List Run) → AllZip (SettlesIfLive t dags) xs ys → Keeps xs ys
keeps_settled t dags [] [] all = tt
keeps_settled t dags [] (y ∷ ys) all = absurd all
keeps_settled t dags (x ∷ xs) [] all = absurd all
keeps_settled t dags (x ∷ xs) (y ∷ ys) all = (here (is_live dags x) all.0, keeps_settled t dags xs ys all.1)
  where
    here : (b : Bool) → MatchBool b (SettlesRun t (tasks_of dags x.dag_id) x y) (y ≡ x) → key_of y ≡ key_of x
    here true is = ap key_of is.rest
    here false is = ap key_of is

cond_key : (b : Bool) (one other : Run) → key_of one ≡ key_of other → key_of (cond b one other) ≡ key_of other
cond_key true one other same = same
cond_key false one other same = refl

pub keeps_started : (t : ℕ) (dags : List DagRow) (runs : List Run) → Keeps runs (started_runs t dags runs)
keeps_started t dags runs = keeps_map (λ run. cond (starts dags runs run) (started_run t run) run) (λ run. cond_key (starts dags runs run) (started_run t run) run refl) runs

pub keeps_finished : (t : ℕ) (dags : List DagRow) (runs : List Run) → Keeps runs (finished_runs t dags runs)
keeps_finished t dags runs = keeps_map (λ run. finished_run t (tasks_of dags run.dag_id) run) (λ run. cond_key (ends run) (ended_run t (tasks_of dags run.dag_id) run) run refl) runs

pub keeps_queued : (q : ℕ → ℕ → Bool) (runs : List Run) → Keeps runs (map (λ run. with_queued (q run.number) run) runs)
keeps_queued q runs = keeps_map (λ run. with_queued (q run.number) run) (λ run. refl) runs

pub keeps_settled_too : (t : ℕ) (dags : List DagRow) (runs settled : List Run) → AllZip (SettlesIfLive t dags) (started_runs t dags runs) settled → Keeps runs settled
keeps_settled_too t dags runs settled all =
    keeps_trans runs (started_runs t dags runs) settled (keeps_started t dags runs) (keeps_settled t dags (started_runs t dags runs) settled all)

pub keeps_queues : (dags : List DagRow) (pools : List Pool) (runs queued : List Run) → QueuesRuns dags pools runs queued → Keeps runs queued
keeps_queues dags pools runs queued queues =
    let told = queues 0 [] in
    subst (Keeps runs) (sym (ap (λ (s : Rattle.af_sched.specs.State.StateRows). s.runs) told.state)) (keeps_queued told.is_queued runs)

pub keeps_moved : (t : ℕ) (dags : List DagRow) (pools : List Pool) (old new : List Run) → MovesOn t dags pools old new → Keeps old new
keeps_moved t dags pools old new moves =
    keeps_trans old moves.settled new (keeps_settled_too t dags old moves.settled moves.settles)
    (keeps_trans moves.settled moves.queued new (keeps_queues dags pools moves.settled moves.queued moves.queues) (subst (Keeps moves.queued) (sym moves.ends) (keeps_finished t dags moves.queued)))

-- ---- what goes by the keys alone
pub numbers_same : (xs ys : List Run) → Keeps xs ys → map (λ (run : Run). run.number) ys ≡ map (λ (run : Run). run.number) xs
numbers_same [] [] keeps = refl
numbers_same [] (y ∷ ys) keeps = absurd keeps
numbers_same (x ∷ xs) [] keeps = absurd keeps
numbers_same (x ∷ xs) (y ∷ ys) keeps = λ i. (keeps.0 i).number ∷ numbers_same xs ys keeps.1 i

key_at : (xs ys : List Run) → Keeps xs ys → (k : ℕ) (d : Run) → k < length ys → (k < length xs) × (key_of (get_or ys k d) ≡ key_of (get_or xs k d))
key_at [] [] keeps k d inside = absurd (omega arith)
key_at [] (y ∷ ys) keeps k d inside = absurd keeps
key_at (x ∷ xs) [] keeps k d inside = absurd keeps
key_at (x ∷ xs) (y ∷ ys) keeps zero d inside = (omega arith, keeps.0)
key_at (x ∷ xs) (y ∷ ys) keeps (suc k) d inside =
    let rest = key_at xs ys keeps.1 k d (omega arith) in (omega (arith, rest.0), rest.1)

numbers_all : (P : ℕ → Type 0) (xs ys : List Run) → Keeps xs ys → All (λ run. P run.number) xs → All (λ run. P run.number) ys
numbers_all P xs ys keeps all k d inside =
    let at = key_at xs ys keeps k d inside in subst P (sym (ap (λ (run : Run). run.number) at.1)) (all k d at.0)

module _ (same : Run → Run → Bool) (by_key : (one other : Run) → same (key_of one) (key_of other) ≡ same one other) where
  apart_keys : (x y : Run) → key_of y ≡ key_of x → (xs ys : List Run) → Keeps xs ys → AllByRecursion (λ z. same x z ≡ false) xs → AllByRecursion (λ z. same y z ≡ false) ys
  apart_keys x y is [] [] keeps all = tt
  apart_keys x y is [] (b ∷ ys) keeps all = absurd keeps
  apart_keys x y is (a ∷ xs) [] keeps all = absurd keeps
  apart_keys x y is (a ∷ xs) (b ∷ ys) keeps all =
      (sym (by_key y b) ∙ (λ i. same (is i) (keeps.0 i)) ∙ by_key x a ∙ all.0, apart_keys x y is xs ys keeps.1 all.1)

  distinct_keys : (xs ys : List Run) → Keeps xs ys → IsDistinct same xs → IsDistinct same ys
  unfolding IsDistinct
  distinct_keys [] [] keeps distinct = tt
  distinct_keys [] (y ∷ ys) keeps distinct = absurd keeps
  distinct_keys (x ∷ xs) [] keeps distinct = absurd keeps
  distinct_keys (x ∷ xs) (y ∷ ys) keeps distinct = (apart_keys x y keeps.0 xs ys keeps.1 distinct.0, distinct_keys xs ys keeps.1 distinct.1)

count_keys : (id : List ℕ) (xs ys : List Run) → Keeps xs ys → length (filter (is_of id) ys) ≡ length (filter (is_of id) xs)
count_keys id [] [] keeps = refl
count_keys id [] (y ∷ ys) keeps = absurd keeps
count_keys id (x ∷ xs) [] keeps = absurd keeps
count_keys id (x ∷ xs) (y ∷ ys) keeps =
    let here : is_of id y ≡ is_of id x = ap (λ (run : Run). is_of id run) keeps.0 in
    let rest = count_keys id xs ys keeps.1 in
    ⊎_elim (λ (is : is_of id x ≡ true). rw (here, is) (ap suc rest)) (λ (not : is_of id x ≡ false). rw (here, not) rest) (cases_Bool (is_of id x))

pub AreRuns-keeps : (old new : List Run) (next : ℕ) → Keeps old new → AreRuns old next → AreRuns new next
AreRuns-keeps old new next keeps are = record {
  in_order = subst (IsStrictlySortedBy nat_cmp) (sym (numbers_same old new keeps)) are.in_order;
  positive = numbers_all (λ n. 0 < n) old new keeps are.positive;
  numbered = numbers_all (λ n. n < next) old new keeps are.numbered;
  one_of_an_id = distinct_keys same_ids (λ one other. refl) old new keeps are.one_of_an_id;
  one_of_a_date = distinct_keys same_date (λ one other. refl) old new keeps are.one_of_a_date;
  bounded = λ id. let same = count_keys id old new keeps in let few = are.bounded id in omega (arith, same, few);
}

-- ---- whole runs
module _ (dags : List DagRow) where
  whole_map : (f : Run → Run) → ((run : Run) → IsWhole dags run → IsWhole dags (f run)) → (xs : List Run) → All (IsWhole dags) xs → All (IsWhole dags) (map f xs)
  whole_map f kept [] whole k d inside = absurd (omega arith)
  whole_map f kept (x ∷ xs) whole zero d inside = kept x (whole 0 x (omega arith))
  whole_map f kept (x ∷ xs) whole (suc k) d inside = whole_map f kept xs (λ j e low. whole (suc j) e (omega arith)) k d (omega arith)

  whole_cond : (b : Bool) (one other : Run) → (IsWhole dags other → IsWhole dags one) → IsWhole dags other → IsWhole dags (cond b one other)
  whole_cond true one other kept whole = kept whole
  whole_cond false one other kept whole = whole

  pub whole_started : (t : ℕ) (runs : List Run) → All (IsWhole dags) runs → All (IsWhole dags) (started_runs t dags runs)
  whole_started t runs whole = whole_map (λ run. cond (starts dags runs run) (started_run t run) run) (λ run is. whole_cond (starts dags runs run) (started_run t run) run (λ same. same) is) runs whole

  pub whole_finished : (t : ℕ) (runs : List Run) → All (IsWhole dags) runs → All (IsWhole dags) (finished_runs t dags runs)
  whole_finished t runs whole = whole_map (λ run. finished_run t (tasks_of dags run.dag_id) run) (λ run is. whole_cond (ends run) (ended_run t (tasks_of dags run.dag_id) run) run (λ same. same) is) runs whole

  long_queued : (q : ℕ → Bool) (n : ℕ) (xs : List Instance) → length {A = Instance} (map (λ row. cond (q row.0) (queued_instance row.1) row.1) (enumerate_from n xs)) ≡ length xs
  long_queued q n [] = refl
  long_queued q n (x ∷ xs) = ap suc (long_queued q (n + 1) xs)

  pub whole_queued : (q : ℕ → ℕ → Bool) (runs : List Run) → All (IsWhole dags) runs → All (IsWhole dags) (map (λ run. with_queued (q run.number) run) runs)
  whole_queued q runs whole =
      whole_map (λ run. with_queued (q run.number) run) (λ run is. is ∙ ap Some (sym (long_queued (q run.number) 0 run.instances))) runs whole

  pub whole_queues : (pools : List Pool) (runs queued : List Run) → QueuesRuns dags pools runs queued → All (IsWhole dags) runs → All (IsWhole dags) queued
  whole_queues pools runs queued queues whole =
      let told = queues 0 [] in
      subst (All (IsWhole dags)) (sym (ap (λ (s : Rattle.af_sched.specs.State.StateRows). s.runs) told.state))
      (whole_queued told.is_queued runs whole)

  whole_settled_one : (t : ℕ) (x y : Run) (b : Bool) → MatchBool b (SettlesRun t (tasks_of dags x.dag_id) x y) (y ≡ x) → IsWhole dags x → IsWhole dags y
  whole_settled_one t x y true is whole =
      let same : y.dag_id ≡ x.dag_id = ap (λ (run : Run). run.dag_id) is.rest in
      ap (λ (id : List ℕ). option_map (λ (row : DagRow). length row.dag.tasks) (dag_of dags id)) same ∙ whole ∙ ap Some (sym is.instances.count)
  whole_settled_one t x y false is whole = subst (IsWhole dags) (sym is) whole

  pub whole_settled : (t : ℕ) (xs ys : List Run) → AllZip (SettlesIfLive t dags) xs ys → All (IsWhole dags) xs → All (IsWhole dags) ys
  whole_settled t [] [] all whole = whole
  whole_settled t [] (y ∷ ys) all whole = absurd all
  whole_settled t (x ∷ xs) [] all whole = absurd all
  whole_settled t (x ∷ xs) (y ∷ ys) all whole =
      All-cons (IsWhole dags) y ys (whole_settled_one t x y (is_live dags x) all.0 (whole 0 x (omega arith))) (whole_settled t xs ys all.1 (λ j e low. whole (suc j) e (omega arith)))

  pub whole_moved : (t : ℕ) (pools : List Pool) (old new : List Run) → MovesOn t dags pools old new → All (IsWhole dags) old → All (IsWhole dags) new
  whole_moved t pools old new moves whole =
      subst (All (IsWhole dags)) (sym moves.ends)
      (whole_finished t moves.queued (whole_queues pools moves.settled moves.queued moves.queues (whole_settled t (started_runs t dags old) moves.settled moves.settles (whole_started t old whole))))
