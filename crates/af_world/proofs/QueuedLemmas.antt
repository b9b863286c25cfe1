-- The fourth phase of a tick can be done on every state that is ready.
use Rattle.std.proofs.Common.{◌≡◌, ◌≢◌, ◌<◌, ◌≤◌, ◌+◌, ◌∙◌, ℕ, List, [], ◌∷◌, ◌++◌, length, map, get_or, refl, sym, ap, arith, zero, suc, Bool, true, false, cond, ◌&&◌, ◌||◌, ◌==◌, ⊎_elim}
use Rattle.std.specs.Prelude.{Contains, filter, nat_le, zip}
use Rattle.std.specs.List.{AllByRecursion, IsDistinct, enumerate_from, list_any}
use Rattle.std.specs.List.Sorted.{IsStrictlySortedBy}
use Rattle.std.specs.Ordering.{nat_cmp}
use Rattle.std.specs.declared.cmp.Ordering.TheVariants.{Less}
use Rattle.std.specs.Cmp.{IsEquivalence, and_equiv, on_equiv, nat_eq_equiv}
use Rattle.std.proofs.lemmas.Bool.{cases_Bool, false≢true, true≢false}
use Rattle.std.proofs.lemmas.Bool.Decides.{nat_tests}
use Rattle.std.proofs.lemmas.List.Sums.{count_by-le-length, length-filter}
use Rattle.std.proofs.lemmas.Map.Keys.{Less-from_sorted}
use Rattle.std.proofs.Math.ListN.{get_or-map, length-map}
use Rattle.af_graph.specs.Graph.{same_name}
use Rattle.af_graph.specs.declared.task_spec.TaskSpec.{TaskSpec}
use Rattle.af_pool.specs.Occupants.{slots_of_all}
use Rattle.af_pool.specs.Pools.{slots_of}
use Rattle.af_pool.specs.declared.pool.Pool.{Pool}
use Rattle.af_runs.specs.declared.instance.Instance.{Instance}
use Rattle.af_runs.specs.declared.run.Run.{Run}
use Rattle.af_sched.specs.Choosing.{same_seat}
use Rattle.af_sched.specs.Placed.{Placed, comes_before, placed_in}
use Rattle.af_sched.specs.Queue.{IsQueueing, Queues, finds_room, may_queue, occupant_of, occupied, queued_instance, with_queued}
use Rattle.af_sched.specs.State.{StateRows, tasks_of}
use Rattle.af_sched.specs.declared.dag_row.DagRow.{DagRow}
use Rattle.af_sched.proofs.PlacedLemmas.{before_itself, before_trans}
use Rattle.af_sched.proofs.QueueLemmas.{filter-agree}
use Rattle.af_sched.proofs.StartLemmas.{get_or-same}
use Rattle.af_world.specs.Ready.{IsReady}
use Rattle.af_world.proofs.ReadyLemmas.{IsInPlace, ready_runs}

-- ---- the instances of all runs are apart

abbrev Rise : List Run → Type 0
Rise runs = (i j : ℕ) (d : Run) → i < j → j < length runs → (get_or runs i d).number < (get_or runs j d).number

abbrev apart_from : ℕ → List Placed → Type 0
apart_from number ys = AllByRecursion (λ z. (number == z.run.number) ≡ false) ys

abbrev rows : Run → ℕ → List TaskSpec → List Instance → List Placed
rows run n tasks instances = map (λ row. record { run = run; place = row.0; task = row.1.0; instance = row.1.1 }) (enumerate_from n (zip tasks instances))

differ : (a b : ℕ) → a ≢ b → (a == b) ≡ false
differ a b apart = grind (arith, nat_tests)

with_false : (x : Bool) → (x && false) ≡ false
with_false true = refl
with_false false = refl

later : (one : Placed) (run : Run) (m : ℕ) (tasks : List TaskSpec) (instances : List Instance) (ys : List Placed) → one.place < m → apart_from one.run.number ys → AllByRecursion (λ z. same_seat one z ≡ false) (rows run m tasks instances ++ ys)
later one run m [] instances [] low apart = tt
later one run m [] instances (y ∷ ys) low apart = (ap (λ (b : Bool). b && (one.place == y.place)) apart.0, later one run m [] instances ys low apart.1)
later one run m (t ∷ tasks) [] [] low apart = tt
later one run m (t ∷ tasks) [] (y ∷ ys) low apart = (ap (λ (b : Bool). b && (one.place == y.place)) apart.0, later one run m [] [] ys low apart.1)
later one run m (t ∷ tasks) (x ∷ xs) ys low apart =
    (ap (λ (b : Bool). (one.run.number == run.number) && b) (differ one.place m (omega arith)) ∙ with_false (one.run.number == run.number), later one run (m + 1) tasks xs ys (omega arith) apart)

distinct_rows : (run : Run) (n : ℕ) (tasks : List TaskSpec) (instances : List Instance) (ys : List Placed) → apart_from run.number ys → IsDistinct same_seat ys → IsDistinct same_seat (rows run n tasks instances ++ ys)
unfolding IsDistinct
distinct_rows run n [] instances ys apart distinct = distinct
distinct_rows run n (t ∷ tasks) [] ys apart distinct = distinct
distinct_rows run n (t ∷ tasks) (x ∷ xs) ys apart distinct =
    (later (record { run = run; place = n; task = t; instance = x }) run (n + 1) tasks xs ys (omega arith) apart, distinct_rows run (n + 1) tasks xs ys apart distinct)

apart_rows : (number : ℕ) (run : Run) (n : ℕ) (tasks : List TaskSpec) (instances : List Instance) (ys : List Placed) → number ≢ run.number → apart_from number ys → apart_from number (rows run n tasks instances ++ ys)
apart_rows number run n [] instances ys other apart = apart
apart_rows number run n (t ∷ tasks) [] ys other apart = apart
apart_rows number run n (t ∷ tasks) (x ∷ xs) ys other apart =
    (differ number run.number other, apart_rows number run (n + 1) tasks xs ys other apart)

apart_in : (dags : List DagRow) (number : ℕ) (runs : List Run) → ((k : ℕ) (d : Run) → k < length runs → number ≢ (get_or runs k d).number) → apart_from number (placed_in dags runs)
apart_in dags number [] others = tt
apart_in dags number (run ∷ runs) others =
    apart_rows number run 0 (tasks_of dags run.dag_id) run.instances (placed_in dags runs) (others 0 run (omega arith)) (apart_in dags number runs (λ k d inside. others (suc k) d (omega arith)))

distinct_in : (dags : List DagRow) (runs : List Run) → Rise runs → IsDistinct same_seat (placed_in dags runs)
unfolding IsDistinct
distinct_in dags [] rise = tt
distinct_in dags (run ∷ runs) rise =
    distinct_rows run 0 (tasks_of dags run.dag_id) run.instances (placed_in dags runs)
    (apart_in dags run.number runs (λ k d inside same. let up = rise 0 (suc k) d (omega arith) (omega arith) in absurd (omega arith)))
    (distinct_in dags runs (λ i j d less inside. rise (suc i) (suc j) d (omega arith) (omega arith)))

below_from : (a b : ℕ) → nat_cmp a b ≡ Less → a < b
below_from a b less = grind (arith, nat_tests)

rise_from : (runs : List Run) → IsStrictlySortedBy nat_cmp (map (λ (run : Run). run.number) runs) → Rise runs
rise_from runs order i j d less inside =
    let number : Run → ℕ = λ run. run.number in
    below_from (get_or runs i d).number (get_or runs j d).number
    ((λ k. nat_cmp (sym (get_or-map number runs i d) k) (sym (get_or-map number runs j d) k)) ∙ Less-from_sorted nat_cmp (map number runs) i j (number d) order less (rw (length-map runs number) inside))

-- ---- one instance

same_seat_laws : IsEquivalence same_seat
same_seat_laws = and_equiv (on_equiv (λ (p : Placed). p.run.number) nat_eq_equiv) (on_equiv (λ (p : Placed). p.place) nat_eq_equiv)

rec_at : {X : Type 0} (P : X → Type 0) (xs : List X) → AllByRecursion P xs → (k : ℕ) (d : X) → k < length xs → P (get_or xs k d)
rec_at P [] all k d inside = absurd (omega arith)
rec_at P (x ∷ xs) all zero d inside = all.0
rec_at P (x ∷ xs) all (suc k) d inside = rec_at P xs all.1 k d (omega arith)

one_of : (all : List Placed) → IsDistinct same_seat all → (i j : ℕ) (d e : Placed) → i < length all → j < length all → same_seat (get_or all i d) (get_or all j e) ≡ true → get_or all i d ≡ get_or all j e
unfolding IsDistinct
one_of [] distinct i j d e low high same = absurd (omega arith)
one_of (x ∷ xs) distinct zero zero d e low high same = refl
one_of (x ∷ xs) distinct zero (suc j) d e low high same =
    absurd (false≢true (sym (rec_at (λ z. same_seat x z ≡ false) xs distinct.0 j e (omega arith)) ∙ same))
one_of (x ∷ xs) distinct (suc i) zero d e low high same =
    absurd (false≢true (sym (rec_at (λ z. same_seat x z ≡ false) xs distinct.0 i d (omega arith)) ∙ same_seat_laws.symm x (get_or xs i d) ∙ same))
one_of (x ∷ xs) distinct (suc i) (suc j) d e low high same = one_of xs distinct.1 i j d e (omega arith) (omega arith) same

alike : (all : List Placed) (a b : Placed) → IsDistinct same_seat all → Contains all a → Contains all b → same_seat a b ≡ true → a ≡ b
alike all a b distinct has_a has_b same =
    let is_a : get_or all has_a.0 a ≡ a = has_a.2 in
    let is_b : get_or all has_b.0 b ≡ b = has_b.2 in
    sym is_a ∙ one_of all distinct has_a.0 has_b.0 a b has_a.1 has_b.1 ((λ i. same_seat (is_a i) (is_b i)) ∙ same) ∙ is_b

-- ---- how many come before an instance

most : {X : Type 0} (p q : X → Bool) → ((x : X) → p x ≡ true → q x ≡ true) → (xs : List X) → length (filter p xs) ≤ length (filter q xs)
most p q more [] = omega arith
most p q more (x ∷ xs) =
    let rest = most p q more xs in
    ⊎_elim
    (λ (is : p x ≡ true). rw (is, more x is) (omega (arith, rest)))
    (λ (not : p x ≡ false). ⊎_elim (λ (also : q x ≡ true). rw (not, also) (omega (arith, rest))) (λ (nor : q x ≡ false). rw (not, nor) rest) (cases_Bool (q x)))
    (cases_Bool (p x))

fewer : {X : Type 0} (p q : X → Bool) → ((x : X) → p x ≡ true → q x ≡ true) → (xs : List X) (i : ℕ) (d : X) → i < length xs → p (get_or xs i d) ≡ false → q (get_or xs i d) ≡ true → length (filter p xs) < length (filter q xs)
fewer p q more [] i d inside not is = absurd (omega arith)
fewer p q more (x ∷ xs) zero d inside not is = rw (not, is) (omega (arith, most p q more xs))
fewer p q more (x ∷ xs) (suc i) d inside not is =
    let rest = fewer p q more xs i d (omega arith) not is in
    ⊎_elim
    (λ (here : p x ≡ true). rw (here, more x here) (omega (arith, rest)))
    (λ (nor : p x ≡ false). ⊎_elim (λ (also : q x ≡ true). rw (nor, also) (omega (arith, rest))) (λ (neither : q x ≡ false). rw (nor, neither) rest) (cases_Bool (q x)))
    (cases_Bool (p x))

three : (a b s c : Bool) → (c ≡ true → a ≡ b) → (a && s && c) ≡ (b && s && c)
three true true s c same = refl
three false false s c same = refl
three true false s true same = absurd (true≢false (same refl))
three true false true false same = refl
three true false false false same = refl
three false true s true same = absurd (false≢true (same refl))
three false true true false same = refl
three false true false false same = refl

-- ---- one passes, or none does

any_true : (f : Placed → Bool) (xs : List Placed) (x : Placed) → Contains xs x → f x ≡ true → list_any f xs ≡ true
any_true f [] x has is = absurd (omega (arith, has.1))
any_true f (y ∷ ys) x (zero, low, same) is = ap (λ (b : Bool). b || list_any f ys) (ap f same ∙ is)
any_true f (y ∷ ys) x (suc k, low, same) is = by (f y) (any_true f ys x (k, omega arith, same) is)
  where
    by : (b : Bool) → list_any f ys ≡ true → (b || list_any f ys) ≡ true
    by true rest = refl
    by false rest = rest

any_false : (f : Placed → Bool) (xs : List Placed) → ((x : Placed) → Contains xs x → f x ≡ false) → list_any f xs ≡ false
any_false f [] none = refl
any_false f (y ∷ ys) none =
    ap (λ (b : Bool). b || list_any f ys) (none y (zero, omega arith, refl)) ∙ any_false f ys (λ x has. none x (suc has.0, omega (arith, has.1), has.2))

-- ---- the choice, made for one instance after the other

module _ (dags : List DagRow) (runs : List Run) (pools : List Pool) where
  abbrev all : List Placed
  all = placed_in dags runs

  -- whether it is queued, where those before it are queued so
  abbrev wants : (ℕ → ℕ → Bool) → Placed → Bool
  wants q placed = may_queue dags placed && finds_room dags runs pools q placed

  abbrev sits : ℕ → ℕ → Placed → Bool
  sits number place placed = (placed.run.number == number) && (placed.place == place)

  -- those that fewer than so many come before
  chosen : ℕ → ℕ → ℕ → Bool
  chosen zero number place = false
  chosen (suc n) number place = list_any (λ placed. sits number place placed && wants (chosen n) placed) all

  module _ (distinct : IsDistinct same_seat all) where
    at_seat : (q : ℕ → ℕ → Bool) (placed : Placed) → Contains all placed → list_any (λ other. sits placed.run.number placed.place other && wants q other) all ≡ wants q placed
    at_seat q placed has = by (wants q placed) refl
      where
        seat : sits placed.run.number placed.place placed ≡ true
        seat = same_seat_laws.refl placed

        test : Placed → Bool
        test other = sits placed.run.number placed.place other && wants q other

        none : wants q placed ≡ false → (other : Placed) → Contains all other → (b : Bool) → sits placed.run.number placed.place other ≡ b → (b && wants q other) ≡ false
        none never other here false apart = refl
        none never other here true same = ap (wants q) (alike all other placed distinct here has same) ∙ never

        by : (b : Bool) → wants q placed ≡ b → list_any (λ other. sits placed.run.number placed.place other && wants q other) all ≡ b
        by true is = any_true (λ other. sits placed.run.number placed.place other && wants q other) all placed has (ap (λ (b : Bool). b && wants q placed) seat ∙ is)
        by false is =
            any_false (λ other. sits placed.run.number placed.place other && wants q other) all
            (λ other here. none is other here (sits placed.run.number placed.place other) refl)

    settled_by : (n : ℕ) (placed : Placed) → Contains all placed → length (filter (λ o. comes_before o placed) all) < n → chosen n placed.run.number placed.place ≡ chosen (suc n) placed.run.number placed.place
    unfolding chosen
    settled_by zero placed has low = absurd (omega arith)
    settled_by (suc n) placed has low =
        let f : ℕ → ℕ → Bool = chosen n in
        let g : ℕ → ℕ → Bool = chosen (suc n) in
        let earlier : filter (λ o. f o.run.number o.place && same_name o.task.pool placed.task.pool && comes_before o placed) all ≡ filter (λ o. g o.run.number o.place && same_name o.task.pool placed.task.pool && comes_before o placed) all =
        filter-agree (λ o. f o.run.number o.place && same_name o.task.pool placed.task.pool && comes_before o placed) (λ o. g o.run.number o.place && same_name o.task.pool placed.task.pool && comes_before o placed) all
        (λ k d inside. three (f (get_or all k d).run.number (get_or all k d).place) (g (get_or all k d).run.number (get_or all k d).place) (same_name (get_or all k d).task.pool placed.task.pool) (comes_before (get_or all k d) placed)
        (λ less. let fewer_before = fewer (λ o. comes_before o (get_or all k d)) (λ o. comes_before o placed) (λ o is. before_trans o (get_or all k d) placed is less) all k d inside (before_itself (get_or all k d)) less in
        settled_by n (get_or all k d) (k, inside, get_or-same all k (get_or all k d) d inside) (omega (arith, fewer_before, low)))) in
        at_seat (chosen n) placed has
        ∙ ap (λ (xs : List Placed). may_queue dags placed && nat_le (placed.task.pool_slots + occupied dags runs placed.task.pool + slots_of_all (map occupant_of xs)) (slots_of pools placed.task.pool)) earlier
        ∙ sym (at_seat (chosen (suc n)) placed has)

    queueing : IsQueueing dags runs pools (chosen (suc (length all)))
    unfolding chosen
    queueing = record {
      exact = λ placed has.
          let few : length (filter (λ o. comes_before o placed) all) < suc (length all) = omega (arith, length-filter (λ (o : Placed). comes_before o placed) all, count_by-le-length (λ (o : Placed). comes_before o placed) all) in
          settled_by (suc (length all)) placed has few ∙ at_seat (chosen (suc (length all))) placed has;
    }

-- ---- the state

long_queued : (q : ℕ → Bool) (n : ℕ) (xs : List Instance) → length {A = Instance} (map (λ row. cond (q row.0) (queued_instance row.1) row.1) (enumerate_from n xs)) ≡ length xs
long_queued q n [] = refl
long_queued q n (x ∷ xs) = ap suc (long_queued q (n + 1) xs)

queued_in_place : (q : ℕ → ℕ → Bool) → IsInPlace (λ run. with_queued (q run.number) run)
queued_in_place q = record { key = λ run. refl; long = λ run. long_queued (q run.number) 0 run.instances }

-- the phase leaves a state that is ready
pub record HasQueued (old : StateRows) : Type 0 where
  pub new : StateRows
  pub queues : Queues old new
  pub ready : IsReady new

pub has_queued : (old : StateRows) → IsReady old → HasQueued old
has_queued old ready =
    let q : ℕ → ℕ → Bool = chosen old.dags old.runs old.pools (suc (length (placed_in old.dags old.runs))) in
    record {
      new = record old { runs = map (λ run. with_queued (q run.number) run) old.runs };
      queues = record {
        is_queued = q;
        queueing = queueing old.dags old.runs old.pools (distinct_in old.dags old.runs (rise_from old.runs ready.is.runs.in_order));
        state = refl;
      };
      ready = ready_runs old (λ run. with_queued (q run.number) run) (queued_in_place q) ready;
    }
