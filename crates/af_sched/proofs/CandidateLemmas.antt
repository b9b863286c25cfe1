-- The instances of all runs are apart, and those that may be queued, in order, are candidates.
use Rattle.std.proofs.Common.{◌≡◌, ◌≢◌, ◌<◌, ◌+◌, ◌∙◌, ℕ, List, [], ◌∷◌, ◌++◌, length, map, get_or, refl, sym, ap, subst, arith, zero, suc, Bool, true, false, ◌&&◌, ◌==◌, ⊎_elim}
use Rattle.std.specs.Prelude.{All, Contains, filter, flat_map, zip, nat_le}
use Rattle.std.specs.List.{enumerate_from, IsDistinct, AllByRecursion}
use Rattle.std.specs.List.Sorted.{IsPermutation, IsSorted, IsStrictlySortedBy}
use Rattle.std.specs.Ordering.{nat_cmp, is_lt}
use Rattle.std.specs.declared.cmp.Ordering.TheVariants.{Less, Equal, Greater}
use Rattle.std.specs.declared.cmp.Ordering.{Ordering}
use Rattle.std.proofs.lemmas.Bool.{cases_Bool, true≢false, false≢true}
use Rattle.std.proofs.lemmas.Bool.Decides.{nat_tests}
use Rattle.std.proofs.lemmas.List.Sorted.{Contains-permutation, All-permutation, sorted_far, IsPermutation-sym}
use Rattle.std.proofs.lemmas.List.MinMax.{ranks_by}
use Rattle.std.proofs.lemmas.Map.Keys.{IsDistinct-IsPermutation, Less-from_sorted}
use Rattle.std.proofs.Math.ListN.{get_or-map, length-map}
use Rattle.af_graph.specs.declared.task_spec.TaskSpec.{TaskSpec}
use Rattle.af_pool.specs.declared.pool.Pool.{Pool}
use Rattle.af_runs.specs.declared.instance.Instance.{Instance}
use Rattle.af_runs.specs.declared.run.Run.{Run}
use Rattle.af_sched.specs.Choosing.{is_among, same_seat, pooled_cmp, AreCandidates, Chooses}
use Rattle.af_sched.specs.Placed.{Placed, placed_in}
use Rattle.af_sched.specs.Queue.{may_queue, IsQueueing}
use Rattle.af_sched.specs.State.{tasks_of}
use Rattle.af_sched.specs.declared.dag_row.DagRow.{DagRow}
use Rattle.af_sched.specs.declared.seat.Seat.{Seat}
use Rattle.af_sched.proofs.PassingLemmas.{same_seat_laws}
use Rattle.af_sched.proofs.PooledLemmas.{pooled_order}
use Rattle.af_sched.proofs.StartLemmas.{get_or-same}

-- ---- the instances of all runs are apart
abbrev pub Rise : List Run → Type 0
Rise runs = (i j : ℕ) (d : Run) → i < j → j < length runs → (get_or runs i d).number < (get_or runs j d).number

abbrev apart_from : ℕ → List Placed → Type 0
apart_from number ys = AllByRecursion (λ z. (number == z.run.number) ≡ false) ys

abbrev rows : Run → ℕ → List TaskSpec → List Instance → List Placed
rows run n tasks instances = map (λ row. record { run = run; place = row.0; task = row.1.0; instance = row.1.1 }) (enumerate_from n (zip tasks instances))

differ : (a b : ℕ) → a ≢ b → (a == b) ≡ false
differ a b apart = grind (arith, nat_tests)

with_false : (x : Bool) → (x && false) ≡ false
with_false true = refl
with_false false = refl

later : (one : Placed) (run : Run) (m : ℕ) (tasks : List TaskSpec) (instances : List Instance) (ys : List Placed) → one.place < m → apart_from one.run.number ys → AllByRecursion (λ z. same_seat one z ≡ false) (rows run m tasks instances ++ ys)
later one run m [] instances [] low apart = tt
later one run m [] instances (y ∷ ys) low apart = (ap (λ (b : Bool). b && (one.place == y.place)) apart.0, later one run m [] instances ys low apart.1)
later one run m (t ∷ tasks) [] [] low apart = tt
later one run m (t ∷ tasks) [] (y ∷ ys) low apart = (ap (λ (b : Bool). b && (one.place == y.place)) apart.0, later one run m [] [] ys low apart.1)
later one run m (t ∷ tasks) (x ∷ xs) ys low apart =
    (ap (λ (b : Bool). (one.run.number == run.number) && b) (differ one.place m (omega arith)) ∙ with_false (one.run.number == run.number), later one run (m + 1) tasks xs ys (omega arith) apart)

distinct_rows : (run : Run) (n : ℕ) (tasks : List TaskSpec) (instances : List Instance) (ys : List Placed) → apart_from run.number ys → IsDistinct same_seat ys → IsDistinct same_seat (rows run n tasks instances ++ ys)
unfolding IsDistinct
distinct_rows run n [] instances ys apart distinct = distinct
distinct_rows run n (t ∷ tasks) [] ys apart distinct = distinct
distinct_rows run n (t ∷ tasks) (x ∷ xs) ys apart distinct =
    (later (record { run = run; place = n; task = t; instance = x }) run (n + 1) tasks xs ys (omega arith) apart, distinct_rows run (n + 1) tasks xs ys apart distinct)

apart_rows : (number : ℕ) (run : Run) (n : ℕ) (tasks : List TaskSpec) (instances : List Instance) (ys : List Placed) → number ≢ run.number → apart_from number ys → apart_from number (rows run n tasks instances ++ ys)
apart_rows number run n [] instances ys other apart = apart
apart_rows number run n (t ∷ tasks) [] ys other apart = apart
apart_rows number run n (t ∷ tasks) (x ∷ xs) ys other apart =
    (differ number run.number other, apart_rows number run (n + 1) tasks xs ys other apart)

apart_in : (dags : List DagRow) (number : ℕ) (runs : List Run) → ((k : ℕ) (d : Run) → k < length runs → number ≢ (get_or runs k d).number) → apart_from number (placed_in dags runs)
apart_in dags number [] others = tt
apart_in dags number (run ∷ runs) others =
    apart_rows number run 0 (tasks_of dags run.dag_id) run.instances (placed_in dags runs) (others 0 run (omega arith)) (apart_in dags number runs (λ k d inside. others (suc k) d (omega arith)))

pub distinct_in : (dags : List DagRow) (runs : List Run) → Rise runs → IsDistinct same_seat (placed_in dags runs)
unfolding IsDistinct
distinct_in dags [] rise = tt
distinct_in dags (run ∷ runs) rise =
    distinct_rows run 0 (tasks_of dags run.dag_id) run.instances (placed_in dags runs)
    (apart_in dags run.number runs (λ k d inside same. let up = rise 0 (suc k) d (omega arith) (omega arith) in absurd (omega arith)))
    (distinct_in dags runs (λ i j d less inside. rise (suc i) (suc j) d (omega arith) (omega arith)))

pub below_from : (a b : ℕ) → nat_cmp a b ≡ Less → a < b
below_from a b less = grind (arith, nat_tests)

pub rise_from : (runs : List Run) → IsStrictlySortedBy nat_cmp (map (λ (run : Run). run.number) runs) → Rise runs
rise_from runs order i j d less inside =
    let number : Run → ℕ = λ run. run.number in
    below_from (get_or runs i d).number (get_or runs j d).number
    ((λ k. nat_cmp (sym (get_or-map number runs i d) k) (sym (get_or-map number runs j d) k)) ∙ Less-from_sorted nat_cmp (map number runs) i j (number d) order less (rw (length-map runs number) inside))

-- ---- what passes a test
module _ {X : Type 0} (test : X → Bool) where
  passing : (xs : List X) (x : X) → Contains (filter test xs) x → test x ≡ true
  passing [] x has = absurd (omega (arith, has.1))
  passing (y ∷ ys) x has =
      ⊎_elim (λ (is : test y ≡ true). head (λ more. passing ys x more) is (subst (λ (b : Bool). Contains (Rattle.std.specs.Prelude.if◌then◌else◌ b (y ∷ filter test ys) (filter test ys)) x) is has)) (λ (not : test y ≡ false). passing ys x (subst (λ (b : Bool). Contains (Rattle.std.specs.Prelude.if◌then◌else◌ b (y ∷ filter test ys) (filter test ys)) x) not has)) (cases_Bool (test y))
    where
      head : (Contains (filter test ys) x → test x ≡ true) → test y ≡ true → Contains (y ∷ filter test ys) x → test x ≡ true
      head rest is (zero, low, same) = sym (ap test same) ∙ is
      head rest is (suc k, low, same) = rest (k, omega arith, same)

  passed_by : (xs : List X) (x : X) → Contains xs x → test x ≡ true → Contains (filter test xs) x
  passed_by [] x has is = absurd (omega (arith, has.1))
  passed_by (y ∷ ys) x (zero, low, same) is =
      let here : test y ≡ true = ap test same ∙ is in rw here (zero, omega arith, same)
  passed_by (y ∷ ys) x (suc k, low, same) is =
      let rest = passed_by ys x (k, omega arith, same) is in
      ⊎_elim (λ (here : test y ≡ true). rw here (suc rest.0, omega (arith, rest.1), rest.2)) (λ (not : test y ≡ false). rw not rest) (cases_Bool (test y))

  among_all : (xs : List X) (x : X) → Contains (filter test xs) x → Contains xs x
  among_all [] x has = has
  among_all (y ∷ ys) x has =
      ⊎_elim (λ (is : test y ≡ true). head (λ more. among_all ys x more) (subst (λ (b : Bool). Contains (Rattle.std.specs.Prelude.if◌then◌else◌ b (y ∷ filter test ys) (filter test ys)) x) is has)) (λ (not : test y ≡ false). up (among_all ys x (subst (λ (b : Bool). Contains (Rattle.std.specs.Prelude.if◌then◌else◌ b (y ∷ filter test ys) (filter test ys)) x) not has))) (cases_Bool (test y))
    where
      up : Contains ys x → Contains (y ∷ ys) x
      up has = (suc has.0, omega (arith, has.1), has.2)

      head : (Contains (filter test ys) x → Contains ys x) → Contains (y ∷ filter test ys) x → Contains (y ∷ ys) x
      head rest (zero, low, same) = (zero, omega arith, same)
      head rest (suc k, low, same) = let has = rest (k, omega arith, same) in (suc has.0, omega (arith, has.1), has.2)

distinct_filter : (test : Placed → Bool) (xs : List Placed) → IsDistinct same_seat xs → IsDistinct same_seat (filter test xs)
unfolding IsDistinct
distinct_filter test [] distinct = distinct
distinct_filter test (x ∷ xs) distinct =
    let rest = distinct_filter test xs distinct.1 in
    ⊎_elim (λ (is : test x ≡ true). rw is (kept xs distinct.0, rest)) (λ (not : test x ≡ false). rw not rest) (cases_Bool (test x))
  where
    kept : (ys : List Placed) → AllByRecursion (λ z. same_seat x z ≡ false) ys → AllByRecursion (λ z. same_seat x z ≡ false) (filter test ys)
    kept [] all = all
    kept (y ∷ ys) all =
        ⊎_elim (λ (is : test y ≡ true). rw is (all.0, kept ys all.1)) (λ (not : test y ≡ false). rw not (kept ys all.1)) (cases_Bool (test y))

distinct_at : (xs : List Placed) → IsDistinct same_seat xs → (i j : ℕ) (d : Placed) → i < j → j < length xs → same_seat (get_or xs i d) (get_or xs j d) ≡ false
unfolding IsDistinct
distinct_at [] distinct i j d less inside = absurd (omega arith)
distinct_at (x ∷ xs) distinct zero zero d less inside = absurd (omega arith)
distinct_at (x ∷ xs) distinct zero (suc j) d less inside = at xs distinct.0 j (omega arith)
  where
    at : (ys : List Placed) → AllByRecursion (λ z. same_seat x z ≡ false) ys → (k : ℕ) → k < length ys → same_seat x (get_or ys k d) ≡ false
    at [] all k within = absurd (omega arith)
    at (y ∷ ys) all zero within = all.0
    at (y ∷ ys) all (suc k) within = at ys all.1 k (omega arith)
distinct_at (x ∷ xs) distinct (suc i) zero d less inside = absurd (omega arith)
distinct_at (x ∷ xs) distinct (suc i) (suc j) d less inside = distinct_at xs distinct.1 i j d (omega arith) (omega arith)

-- ---- candidates
equal_seat : (a b : Placed) → pooled_cmp a b ≡ Equal → same_seat a b ≡ true
equal_seat a b same =
    both (Rattle.std.specs.Cmp.Lexicographic.slice_cmp nat_cmp a.task.pool b.task.pool) (Rattle.std.specs.Ordering.int_cmp b.task.priority_weight a.task.priority_weight) same
  where
    both : (o p : Ordering) → Rattle.std.specs.Ordering.ordering_then o (Rattle.std.specs.Ordering.ordering_then p (Rattle.std.specs.Ordering.ordering_then (nat_cmp a.run.number b.run.number) (nat_cmp a.place b.place))) ≡ Equal → same_seat a b ≡ true
    both Less p e = absurd (cc)
    both Greater p e = absurd (cc)
    both Equal Less e = absurd (cc)
    both Equal Greater e = absurd (cc)
    both Equal Equal e = last (nat_cmp a.run.number b.run.number) refl e
      where
        last : (o : Ordering) → nat_cmp a.run.number b.run.number ≡ o → Rattle.std.specs.Ordering.ordering_then o (nat_cmp a.place b.place) ≡ Equal → same_seat a b ≡ true
        last Less is e = absurd (cc)
        last Greater is e = absurd (cc)
        last Equal is e = grind (arith, nat_tests)

less_or : (o : Ordering) → (o ≡ Equal → false ≡ true) → is_lt (Rattle.std.specs.Ordering.ordering_reverse o) ≡ false → is_lt o ≡ true
less_or Less other back = refl
less_or Equal other back = absurd (false≢true (other refl))
less_or Greater other back = absurd (true≢false back)

pub candidates_from : (dags : List DagRow) (runs : List Run) (cs : List Placed) → IsStrictlySortedBy nat_cmp (map (λ (run : Run). run.number) runs) → IsPermutation (filter (may_queue dags) (placed_in dags runs)) cs → IsSorted pooled_cmp cs → AreCandidates (placed_in dags runs) cs
candidates_from dags runs cs order moved sorted =
    let all : List Placed = placed_in dags runs in
    let distinct : IsDistinct same_seat all = distinct_in dags runs (rise_from runs order) in
    let apart : IsDistinct same_seat cs = IsDistinct-IsPermutation same_seat same_seat_laws.symm (filter (may_queue dags) all) cs moved (distinct_filter (may_queue dags) all distinct) in
    record {
      distinct = distinct;
      members = All-permutation (Contains all) (filter (may_queue dags) all) cs moved (λ k d inside. among_all (may_queue dags) all (get_or (filter (may_queue dags) all) k d) (k, inside, get_or-same (filter (may_queue dags) all) k (get_or (filter (may_queue dags) all) k d) d inside));
      in_order = λ i j d less inside.
          let a : Placed = get_or cs i d in
          let b : Placed = get_or cs j d in
          let far : is_lt (pooled_cmp b a) ≡ false = sorted_far (λ x y. is_lt (pooled_cmp x y)) (ranks_by pooled_order (λ (placed : Placed). placed)) cs sorted i j d (omega arith) inside in
          less_or (pooled_cmp a b) (λ same. sym (distinct_at cs apart i j d less inside) ∙ equal_seat a b same) ((λ k. is_lt (sym (pooled_order.antisymm b a) k)) ∙ far);
    }

not_any : (b : Bool) → (b ≡ true → false ≡ true) → b ≡ false
not_any true never = absurd (false≢true (never refl))
not_any false never = refl

pub queueing_from : (dags : List DagRow) (runs : List Run) (pools : List Pool) (cs : List Placed) (seats : List Seat) → IsPermutation (filter (may_queue dags) (placed_in dags runs)) cs → Chooses pools (placed_in dags runs) cs seats → IsQueueing dags runs pools (is_among seats)
queueing_from dags runs pools cs seats moved chooses = record {
  exact = λ placed has.
      let all : List Placed = placed_in dags runs in
      ⊎_elim
      (λ (may : may_queue dags placed ≡ true).
      let found = Contains-permutation (filter (may_queue dags) all) cs placed moved (passed_by (may_queue dags) all placed has may) in
      let here : get_or cs found.0 placed ≡ placed = found.2 in
      rw may (subst (λ (p : Placed). is_among seats p.run.number p.place ≡ Rattle.af_sched.specs.Choosing.fits pools all seats p) here (chooses.exact found.0 placed found.1)))
      (λ (not : may_queue dags placed ≡ false).
      rw not (not_any (is_among seats placed.run.number placed.place) (λ is. sym not ∙ passing (may_queue dags) all placed (Contains-permutation cs (filter (may_queue dags) all) placed (IsPermutation-sym (filter (may_queue dags) all) cs moved) (chooses.only placed has is)))))
      (cases_Bool (may_queue dags placed));
}
