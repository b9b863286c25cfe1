-- The slots of pools go to scheduled instances in one way: what is queued at an instance goes by what is queued before it.
use Rattle.std.proofs.Common.{◌≡◌, ◌<◌, ◌≤◌, ◌+◌, ◌∙◌, ℕ, List, [], ◌∷◌, length, map, get_or, refl, sym, ap, subst, arith, zero, suc, Bool, true, false, cond, ◌&&◌, ⊎_elim}
use Rattle.std.specs.Prelude.{All, Contains, filter, flat_map, zip, nat_le}
use Rattle.std.specs.List.{enumerate_from}
use Rattle.std.proofs.lemmas.Bool.{cases_Bool, true≢false, false≢true}
use Rattle.std.proofs.lemmas.List.Elements.{Contains-append_left, Contains-append_right}
use Rattle.af_graph.specs.Graph.{same_name}
use Rattle.af_graph.specs.declared.task_spec.TaskSpec.{TaskSpec}
use Rattle.af_pool.specs.Occupants.{slots_of_all}
use Rattle.af_pool.specs.Pools.{slots_of}
use Rattle.af_pool.specs.declared.pool.Pool.{Pool}
use Rattle.af_runs.specs.declared.instance.Instance.{Instance}
use Rattle.af_runs.specs.declared.run.Run.{Run}
use Rattle.af_sched.specs.Placed.{Placed, placed_of, placed_in, comes_before}
use Rattle.af_sched.specs.Queue.{IsQueueing, Queues, occupied, may_queue, occupant_of, queued_instance, with_queued}
use Rattle.af_sched.specs.State.{StateRows, AreRows, IsWhole, tasks_of}
use Rattle.af_sched.specs.declared.dag_row.DagRow.{DagRow}
use Rattle.af_sched.proofs.PlacedLemmas.{before_trans, before_itself}
use Rattle.af_sched.proofs.SettleLemmas.{tasks_long}
use Rattle.af_sched.proofs.StartLemmas.{get_or-same}

-- ---- filters
pub filter-agree : {X : Type 0} (p q : X → Bool) (xs : List X) → All (λ x. p x ≡ q x) xs → filter p xs ≡ filter q xs
filter-agree p q [] same = refl
filter-agree p q (x ∷ xs) same =
    let rest : filter p xs ≡ filter q xs = filter-agree p q xs (λ k d inside. same (suc k) d (omega arith)) in
    rw (same 0 x (omega arith), rest) refl

most : {X : Type 0} (p q : X → Bool) → ((x : X) → p x ≡ true → q x ≡ true) → (xs : List X) → length (filter p xs) ≤ length (filter q xs)
most p q more [] = omega arith
most p q more (x ∷ xs) =
    let rest = most p q more xs in
    ⊎_elim
    (λ (is : p x ≡ true). rw (is, more x is) (omega (arith, rest)))
    (λ (not : p x ≡ false). ⊎_elim (λ (also : q x ≡ true). rw (not, also) (omega (arith, rest))) (λ (nor : q x ≡ false). rw (not, nor) rest) (cases_Bool (q x)))
    (cases_Bool (p x))

fewer : {X : Type 0} (p q : X → Bool) → ((x : X) → p x ≡ true → q x ≡ true) → (xs : List X) (i : ℕ) (d : X) → i < length xs → p (get_or xs i d) ≡ false → q (get_or xs i d) ≡ true → length (filter p xs) < length (filter q xs)
fewer p q more [] i d inside not is = absurd (omega arith)
fewer p q more (x ∷ xs) zero d inside not is = rw (not, is) (omega (arith, most p q more xs))
fewer p q more (x ∷ xs) (suc i) d inside not is =
    let rest = fewer p q more xs i d (omega arith) not is in
    ⊎_elim
    (λ (here : p x ≡ true). rw (here, more x here) (omega (arith, rest)))
    (λ (nor : p x ≡ false). ⊎_elim (λ (also : q x ≡ true). rw (nor, also) (omega (arith, rest))) (λ (neither : q x ≡ false). rw (nor, neither) rest) (cases_Bool (q x)))
    (cases_Bool (p x))

three : (a b s c : Bool) → (c ≡ true → a ≡ b) → (a && s && c) ≡ (b && s && c)
three true true s c same = refl
three false false s c same = refl
three true false s true same = absurd (true≢false (same refl))
three true false true false same = refl
three true false false false same = refl
three false true s true same = absurd (false≢true (same refl))
three false true true false same = refl
three false true false false same = refl

-- ---- two ways of queueing are one
module _ (dags : List DagRow) (runs : List Run) (pools : List Pool) (f g : ℕ → ℕ → Bool) (one : IsQueueing dags runs pools f) (other : IsQueueing dags runs pools g) where
  before : Placed → List Placed
  before placed = filter (λ o. comes_before o placed) (placed_in dags runs)

  agree : (n : ℕ) (placed : Placed) → Contains (placed_in dags runs) placed → length (filter (λ o. comes_before o placed) (placed_in dags runs)) < n → f placed.run.number placed.place ≡ g placed.run.number placed.place
  agree zero placed has low = absurd (omega arith)
  agree (suc n) placed has low =
      let all : List Placed = placed_in dags runs in
      let earlier : filter (λ o. f o.run.number o.place && same_name o.task.pool placed.task.pool && comes_before o placed) all ≡ filter (λ o. g o.run.number o.place && same_name o.task.pool placed.task.pool && comes_before o placed) all =
      filter-agree (λ o. f o.run.number o.place && same_name o.task.pool placed.task.pool && comes_before o placed) (λ o. g o.run.number o.place && same_name o.task.pool placed.task.pool && comes_before o placed) all
      (λ k d inside. three (f (get_or all k d).run.number (get_or all k d).place) (g (get_or all k d).run.number (get_or all k d).place) (same_name (get_or all k d).task.pool placed.task.pool) (comes_before (get_or all k d) placed)
      (λ less. let fewer_before = fewer (λ o. comes_before o (get_or all k d)) (λ o. comes_before o placed) (λ o is. before_trans o (get_or all k d) placed is less) all k d inside (before_itself (get_or all k d)) less in
      agree n (get_or all k d) (k, inside, get_or-same all k (get_or all k d) d inside) (omega (arith, fewer_before, low)))) in
      one.exact placed has
      ∙ ap (λ (xs : List Placed). may_queue dags placed && nat_le (placed.task.pool_slots + occupied dags runs placed.task.pool + slots_of_all (map occupant_of xs)) (slots_of pools placed.task.pool)) earlier
      ∙ sym (other.exact placed has)

  pub same_choice : (placed : Placed) → Contains (placed_in dags runs) placed → f placed.run.number placed.place ≡ g placed.run.number placed.place
  same_choice placed has = agree (suc (length (filter (λ o. comes_before o placed) (placed_in dags runs)))) placed has (omega arith)

-- ---- each instance of a run is among those of all runs
pub member_at : (xs : List Placed) (i : ℕ) → i < length xs → (x : Placed) × Contains xs x × ((d : Placed) → get_or xs i d ≡ x)
member_at [] i inside = absurd (omega arith)
member_at (x ∷ xs) zero inside = (x, (zero, omega arith, refl), λ d. refl)
member_at (x ∷ xs) (suc i) inside =
    let rest = member_at xs i (omega arith) in
    (rest.0, (suc rest.1.0, omega (arith, rest.1.1), rest.1.2), rest.2)

row_fields : (run : Run) (n : ℕ) (tasks : List TaskSpec) (instances : List Instance) (i : ℕ) (d : Placed) → i < length tasks → i < length instances → ((get_or (map (λ row. record { run = run; place = row.0; task = row.1.0; instance = row.1.1 }) (enumerate_from n (zip tasks instances))) i d).run ≡ run) × ((get_or (map (λ row. record { run = run; place = row.0; task = row.1.0; instance = row.1.1 }) (enumerate_from n (zip tasks instances))) i d).place ≡ n + i)
row_fields run n [] instances i d first second = absurd (omega arith)
row_fields run n (t ∷ tasks) [] i d first second = absurd (omega arith)
row_fields run n (t ∷ tasks) (x ∷ xs) zero d first second = (refl, omega arith)
row_fields run n (t ∷ tasks) (x ∷ xs) (suc i) d first second =
    let rest = row_fields run (n + 1) tasks xs i d (omega arith) (omega arith) in (rest.0, omega (arith, rest.1))

pub rows_long : (run : Run) (n : ℕ) (tasks : List TaskSpec) (instances : List Instance) (i : ℕ) → i < length tasks → i < length instances → i < length {A = Placed} (map (λ row. record { run = run; place = row.0; task = row.1.0; instance = row.1.1 }) (enumerate_from n (zip tasks instances)))
rows_long run n [] instances i first second = absurd (omega arith)
rows_long run n (t ∷ tasks) [] i first second = absurd (omega arith)
rows_long run n (t ∷ tasks) (x ∷ xs) zero first second = omega arith
rows_long run n (t ∷ tasks) (x ∷ xs) (suc i) first second = omega (arith, rows_long run (n + 1) tasks xs i (omega arith) (omega arith))

pub contains_flat : (g : Run → List Placed) (runs : List Run) (k : ℕ) (d : Run) (x : Placed) → k < length runs → Contains (g (get_or runs k d)) x → Contains (flat_map g runs) x
contains_flat g [] k d x inside has = absurd (omega arith)
contains_flat g (run ∷ runs) zero d x inside has = Contains-append_left (g run) (flat_map g runs) x has
contains_flat g (run ∷ runs) (suc k) d x inside has = Contains-append_right (g run) (flat_map g runs) x (contains_flat g runs k d x (omega arith) has)

map-places : (p q : ℕ → Bool) (n : ℕ) (xs : List Instance) → ((i : ℕ) → i < length xs → p (n + i) ≡ q (n + i)) → map (λ row. cond (p row.0) (queued_instance row.1) row.1) (enumerate_from n xs) ≡ map (λ row. cond (q row.0) (queued_instance row.1) row.1) (enumerate_from n xs)
map-places p q n [] same = refl
map-places p q n (x ∷ xs) same =
    let here : p n ≡ q n = let at : n + 0 ≡ n = omega arith in subst (λ (k : ℕ). p k ≡ q k) at (same 0 (omega arith)) in
    let rest = map-places p q (n + 1) xs (λ i inside. let at : n + suc i ≡ n + 1 + i = omega arith in subst (λ (k : ℕ). p k ≡ q k) at (same (suc i) (omega arith))) in
    rw (here, rest) refl

map-runs : (u v : Run → Run) (runs : List Run) → All (λ run. u run ≡ v run) runs → map u runs ≡ map v runs
map-runs u v [] same = refl
map-runs u v (run ∷ runs) same =
    let here : u run ≡ v run = same 0 run (omega arith) in
    let rest : map u runs ≡ map v runs = map-runs u v runs (λ k d inside. same (suc k) d (omega arith)) in
    cc

module _ (dags : List DagRow) (runs : List Run) (pools : List Pool) (f g : ℕ → ℕ → Bool) (one : IsQueueing dags runs pools f) (other : IsQueueing dags runs pools g) (whole : All (IsWhole dags) runs) where
  same_at : (k : ℕ) (d : Run) (place : ℕ) → k < length runs → place < length (get_or runs k d).instances → f (get_or runs k d).number place ≡ g (get_or runs k d).number place
  same_at k d place inside within =
      let run : Run = get_or runs k d in
      let tasks : List TaskSpec = tasks_of dags run.dag_id in
      let first : place < length tasks = omega (arith, tasks_long dags run.dag_id (length run.instances) (whole k d inside), within) in
      let found = member_at (placed_of tasks run) place (rows_long run 0 tasks run.instances place first within) in
      let fields = row_fields run 0 tasks run.instances place found.0 first within in
      let is_run : found.0.run ≡ run = sym (ap (λ (p : Placed). p.run) (found.2 found.0)) ∙ fields.0 in
      let is_place : found.0.place ≡ place = sym (ap (λ (p : Placed). p.place) (found.2 found.0)) ∙ fields.1 ∙ (let at : 0 + place ≡ place = omega arith in at) in
      let same = same_choice dags runs pools f g one other found.0 (contains_flat (λ (r : Run). placed_of (tasks_of dags r.dag_id) r) runs k d found.0 inside found.1) in
      sym (λ i. f (is_run i).number (is_place i)) ∙ same ∙ (λ i. g (is_run i).number (is_place i))

  pub same_runs : map (λ run. with_queued (f run.number) run) runs ≡ map (λ run. with_queued (g run.number) run) runs
  same_runs =
      map-runs (λ run. with_queued (f run.number) run) (λ run. with_queued (g run.number) run) runs
      (λ k d inside. ap (λ (xs : List Instance). record (get_or runs k d) { instances = xs })
      (map-places (f (get_or runs k d).number) (g (get_or runs k d).number) 0 (get_or runs k d).instances
      (λ i within. let at : i ≡ 0 + i = omega arith in subst (λ (n : ℕ). f (get_or runs k d).number n ≡ g (get_or runs k d).number n) at (same_at k d i inside within))))

pub queued_state_is_one : (old one other : StateRows) → AreRows old.dags old.runs → Queues old one → Queues old other → one ≡ other
queued_state_is_one old one other are first second =
    first.state
    ∙ ap (λ (runs : List Run). record old { runs = runs }) (same_runs old.dags old.runs old.pools first.is_queued second.is_queued first.queueing second.queueing are.whole)
    ∙ sym second.state
