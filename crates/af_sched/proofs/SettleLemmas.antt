-- A run's instances settled one after the other, in the order of the graph, are what their rules decide on the states that
-- the tasks upstream have in the end; and nothing else is.
use Rattle.std.proofs.Common.{◌≡◌, ◌≢◌, ◌<◌, ◌≤◌, ◌+◌, ◌∙◌, ℕ, List, [], ◌∷◌, length, get_or, set, take, map, sym, refl, ap, subst, arith, zero, suc, ⊎_elim, length-set, length-take}
use Rattle.std.specs.Prelude.{All, Contains, slice_get, Some, None, Option, option_map, MatchBool, Bool, true, false}
use Rattle.std.specs.List.{AllZip}
use Rattle.std.specs.Option.{option_map_or}
use Rattle.std.proofs.lemmas.Bool.{cases_lt, cases_Bool}
use Rattle.std.proofs.lemmas.Option.{none-some}
use Rattle.std.proofs.lemmas.List.{get_or-set_other, get_or-set_same, same_lists, get_or-take}
use Rattle.std.proofs.lemmas.Grind.{get_or_default_zero}
use Rattle.af_graph.specs.Definition.{fault_of}
use Rattle.af_graph.specs.Graph.{upstream_of, upstream_rows}
use Rattle.af_graph.specs.Order.{IsOrder, order_of}
use Rattle.af_graph.specs.TriggerRules.{verdict_of}
use Rattle.af_graph.specs.declared.task_spec.TaskSpec.{TaskSpec}
use Rattle.af_graph.specs.declared.task_state.TaskState.TheVariants as task_state
use Rattle.af_graph.proofs.DagLemmas.{order_whole, order_ruled}
use Rattle.af_graph.proofs.RowLemmas.{length-upstream_rows}
use Rattle.af_runs.specs.declared.instance.Instance.{Instance}
use Rattle.af_runs.specs.declared.run.Run.{Run}
use Rattle.af_sched.specs.Settle.{state_at, rule_at, verdict_at, settled_instance, is_live, SettlesInstances, SettlesRun, SettlesIfLive, Settles}
use Rattle.af_sched.specs.State.{StateRows, AreRows, IsWhole, dag_of, tasks_of, is_of_id}
use Rattle.af_sched.specs.declared.dag_row.DagRow.{DagRow}
use Rattle.af_sched.specs.Steps.{SetsSettled}

-- ---- lists
pub map-agree : {A B : Type 0} (f g : A → B) (xs : List A) → All (λ x. f x ≡ g x) xs → map f xs ≡ map g xs
map-agree f g [] same = refl
map-agree f g (x ∷ xs) same =
    let here : f x ≡ g x = same 0 x (omega arith) in
    let rest : map f xs ≡ map g xs = map-agree f g xs (λ k d inside. same (suc k) d (omega arith)) in
    cc

slice_get-set_other : (xs : List Instance) (i j : ℕ) (y : Instance) → j ≢ i → slice_get (set xs i y) j ≡ slice_get xs j
slice_get-set_other [] i j y other = refl
slice_get-set_other (x ∷ xs) zero zero y other = absurd (other refl)
slice_get-set_other (x ∷ xs) zero (suc j) y other = refl
slice_get-set_other (x ∷ xs) (suc i) zero y other = refl
slice_get-set_other (x ∷ xs) (suc i) (suc j) y other = slice_get-set_other xs i j y (λ e. other (ap suc e))

slice_get-agree : (xs ys : List Instance) (j : ℕ) → length xs ≡ length ys → ((d : Instance) → get_or xs j d ≡ get_or ys j d) → slice_get xs j ≡ slice_get ys j
slice_get-agree [] [] j long same = refl
slice_get-agree [] (y ∷ ys) j long same = absurd (omega arith)
slice_get-agree (x ∷ xs) [] j long same = absurd (omega arith)
slice_get-agree (x ∷ xs) (y ∷ ys) zero long same = ap Some (same x)
slice_get-agree (x ∷ xs) (y ∷ ys) (suc j) long same = slice_get-agree xs ys j (omega arith) same

-- ---- what is among the first of a list, by its turn
pub turn_of : (xs : List ℕ) (k x : ℕ) → Contains (take k xs) x → (i : ℕ) × (i < k) × (i < length xs) × (get_or xs i 0 ≡ x)
turn_of xs k x has =
    let long : length (take k xs) ≤ k = omega (arith, length-take {A = ℕ} k xs) in
    let inside : length (take k xs) ≤ length xs = omega (arith, length-take {A = ℕ} k xs) in
    let below : has.0 < k = omega (arith, has.1) in
    let within : has.0 < length xs = omega (arith, has.1) in
    (has.0, below, within, sym (get_or_default_zero xs has.0 x within) ∙ sym (get_or-take k xs has.0 x below) ∙ has.2)

pub among_first : (xs : List ℕ) (k i x : ℕ) → i < k → i < length xs → get_or xs i 0 ≡ x → Contains (take k xs) x
among_first xs k i x below within is =
    (i, rw (length-take k xs) (omega arith), get_or-take k xs i x below ∙ get_or_default_zero xs i x within ∙ is)

-- ---- what is decided goes by the states upstream alone
pub verdict_agree : (tasks : List TaskSpec) (xs ys : List Instance) (place : ℕ) → All (λ other. state_at xs other ≡ state_at ys other) (upstream_of tasks place) → verdict_at tasks xs place ≡ verdict_at tasks ys place
verdict_agree tasks xs ys place same = ap (verdict_of (rule_at tasks place)) (map-agree (state_at xs) (state_at ys) (upstream_of tasks place) same)

pub state_set_other : (xs : List Instance) (i j : ℕ) (y : Instance) → j ≢ i → state_at (set xs i y) j ≡ state_at xs j
state_set_other xs i j y other = ap (λ (o : Option Instance). option_map_or (λ instance. instance.state) o task_state.NoStatus) (slice_get-set_other xs i j y other)

pub state_agree : (xs ys : List Instance) (place : ℕ) → length xs ≡ length ys → ((d : Instance) → get_or xs place d ≡ get_or ys place d) → state_at xs place ≡ state_at ys place
state_agree xs ys place long same = ap (λ (o : Option Instance). option_map_or (λ instance. instance.state) o task_state.NoStatus) (slice_get-agree xs ys place long same)

get_or-any : (xs : List Instance) (i : ℕ) (d e : Instance) → i < length xs → get_or xs i d ≡ get_or xs i e
get_or-any [] i d e within = absurd (omega arith)
get_or-any (x ∷ xs) zero d e within = refl
get_or-any (x ∷ xs) (suc i) d e within = get_or-any xs i d e (omega arith)

blank : Instance
blank = record { state = task_state.NoStatus; try_number = 0; max_tries = 0; start_date = None; end_date = None; retry_at = None }

-- ---- instances settled so far
-- the first turns of the order have been taken, from old to now
pub record Settling (t : ℕ) (tasks : List TaskSpec) (order : List ℕ) (turns : ℕ) (old now : List Instance) : Type 0 where
  pub count : length now ≡ length old
  pub done : (turn : ℕ) (d : Instance) → turn < turns → get_or now (get_or order turn 0) d ≡ settled_instance t (verdict_at tasks now (get_or order turn 0)) (get_or old (get_or order turn 0) d)
  pub kept : (place : ℕ) (d : Instance) → ((turn : ℕ) → turn < turns → get_or order turn 0 ≢ place) → get_or now place d ≡ get_or old place d

pub Settling-init : (t : ℕ) (tasks : List TaskSpec) (order : List ℕ) (old : List Instance) → Settling t tasks order 0 old old
Settling-init t tasks order old = record {
  count = refl;
  done = λ turn d below. absurd (omega arith);
  kept = λ place d none. refl;
}

module _ (t : ℕ) (tasks : List TaskSpec) (order : List ℕ) (is_order : IsOrder (upstream_rows tasks) order) where
  -- no place is taken twice
  fresh : (earlier later : ℕ) → earlier < later → later < length order → get_or order earlier 0 ≢ get_or order later 0
  fresh earlier later before inside same =
      (is_order.step later inside).free.fresh (among_first order later earlier (get_or order later 0) before (omega arith) same)

  -- each place upstream is taken earlier
  upstream_earlier : (turn : ℕ) → turn < length order → All (λ other. (i : ℕ) × (i < turn) × (i < length order) × (get_or order i 0 ≡ other)) (upstream_of tasks (get_or order turn 0))
  upstream_earlier turn inside k d within =
      turn_of order turn (get_or (upstream_of tasks (get_or order turn 0)) k d) ((is_order.step turn inside).free.after k d within)

  -- what is decided at a turn does not change at a later one
  verdict_kept : (turn later : ℕ) (now : List Instance) (y : Instance) → turn ≤ later → later < length order → verdict_at tasks (set now (get_or order later 0) y) (get_or order turn 0) ≡ verdict_at tasks now (get_or order turn 0)
  verdict_kept turn later now y up inside =
      verdict_agree tasks (set now (get_or order later 0) y) now (get_or order turn 0) (λ k d within. let earlier = upstream_earlier turn (omega arith) k d within in let other : get_or (upstream_of tasks (get_or order turn 0)) k d ≢ get_or order later 0 = λ same. fresh earlier.0 later (omega (arith, earlier.1)) inside (earlier.3 ∙ same) in state_set_other now (get_or order later 0) (get_or (upstream_of tasks (get_or order turn 0)) k d) y other)

  step_at : (turn : ℕ) (old now : List Instance) (e : Instance) → turn < length order → get_or order turn 0 < length old → Settling t tasks order turn old now → Settling t tasks order (turn + 1) old (set now (get_or order turn 0) (settled_instance t (verdict_at tasks now (get_or order turn 0)) (get_or now (get_or order turn 0) e)))
  step_at turn old now e inside within so_far =
      let place : ℕ = get_or order turn 0 in
      let y : Instance = settled_instance t (verdict_at tasks now place) (get_or now place e) in
      let here : place < length now = omega (arith, so_far.count) in
      record {
        count = length-set now place y ∙ so_far.count;
        done = λ before d below. ⊎_elim
            (λ (earlier : before < turn). let other : get_or order before 0 ≢ place = fresh before turn earlier inside in
            get_or-set_other now place (get_or order before 0) y d other
            ∙ so_far.done before d earlier
            ∙ ap (λ v. settled_instance t v (get_or old (get_or order before 0) d)) (sym (verdict_kept before turn now y (omega arith) inside)))
            (λ (last : turn ≤ before). let same : before ≡ turn = omega arith in
            subst (λ (n : ℕ). get_or (set now place y) (get_or order n 0) d ≡ settled_instance t (verdict_at tasks (set now place y) (get_or order n 0)) (get_or old (get_or order n 0) d)) (sym same)
            (get_or-set_same now place y d here
            ∙ ap (settled_instance t (verdict_at tasks now place)) (get_or-any now place e d here ∙ so_far.kept place d (λ earlier low is. fresh earlier turn low inside is))
            ∙ ap (λ v. settled_instance t v (get_or old place d)) (sym (verdict_kept turn turn now y (omega arith) inside))))
            (cases_lt before turn);
        kept = λ other d none.
            get_or-set_other now place other y d (λ is. none turn (omega arith) (sym is))
            ∙ so_far.kept other d (λ earlier low. none earlier (omega arith));
      }

  pub Settling-step : (turn place : ℕ) (old now new : List Instance) → get_or order turn 0 ≡ place → turn < length order → length old ≡ length tasks → SetsSettled t tasks place now new → Settling t tasks order turn old now → Settling t tasks order (turn + 1) old new
  Settling-step turn place old now new is inside long sets so_far =
      let here : get_or order turn 0 < length old = omega (arith, (is_order.step turn inside).free.here, length-upstream_rows tasks) in
      let sets_at = subst (λ (p : ℕ). SetsSettled t tasks p now new) (sym is) sets in
      subst (Settling t tasks order (turn + 1) old) (sym (sets_at blank)) (step_at turn old now blank inside here so_far)

  pub Settling-ends : (old now : List Instance) → ((place : ℕ) → place < length old → Contains order place) → Settling t tasks order (length order) old now → SettlesInstances t tasks old now
  Settling-ends old now whole so_far = record {
    count = so_far.count;
    each = λ place d within.
        let has = whole place within in
        let is : get_or order has.0 0 ≡ place = sym (get_or_default_zero order has.0 place has.1) ∙ has.2 in
        subst (λ (p : ℕ). get_or now p d ≡ settled_instance t (verdict_at tasks now p) (get_or old p d)) is (so_far.done has.0 d has.1);
  }

  -- two lists that are what the rules decide have the same instances at the first turns
  same_so_far : (old one other : List Instance) → length old ≡ length tasks → SettlesInstances t tasks old one → SettlesInstances t tasks old other → (turns : ℕ) → turns ≤ length order → (turn : ℕ) (d : Instance) → turn < turns → get_or one (get_or order turn 0) d ≡ get_or other (get_or order turn 0) d
  same_so_far old one other long first second zero up turn d below = absurd (omega arith)
  same_so_far old one other long first second (suc turns) up turn d below =
      ⊎_elim
      (λ (earlier : turn < turns). same_so_far old one other long first second turns (omega arith) turn d earlier)
      (λ (last : turns ≤ turn).
      let before = same_so_far old one other long first second turns (omega arith) in
      let inside : turn < length order = omega arith in
      let here : get_or order turn 0 < length old = omega (arith, (is_order.step turn inside).free.here, length-upstream_rows tasks) in
      let long_too : length one ≡ length other = first.count ∙ sym second.count in
      let states : All (λ place. state_at one place ≡ state_at other place) (upstream_of tasks (get_or order turn 0)) =
      λ k e within. let at = upstream_earlier turn inside k e within in
      subst (λ (p : ℕ). state_at one p ≡ state_at other p) at.3 (state_agree one other (get_or order at.0 0) long_too (λ f. before at.0 f (omega (arith, at.1)))) in
      first.each (get_or order turn 0) d here
      ∙ ap (λ v. settled_instance t v (get_or old (get_or order turn 0) d)) (verdict_agree tasks one other (get_or order turn 0) states)
      ∙ sym (second.each (get_or order turn 0) d here))
      (cases_lt turn turns)

  pub settled_is_one : (old one other : List Instance) → length old ≡ length tasks → ((place : ℕ) → place < length tasks → Contains order place) → SettlesInstances t tasks old one → SettlesInstances t tasks old other → one ≡ other
  settled_is_one old one other long whole first second =
      same_lists one other (first.count ∙ sym second.count) (λ place d within.
      let has = whole place (omega (arith, first.count)) in
      let is : get_or order has.0 0 ≡ place = sym (get_or_default_zero order has.0 place has.1) ∙ has.2 in
      subst (λ (p : ℕ). get_or one p d ≡ get_or other p d) is (same_so_far old one other long first second (length order) (omega arith) has.0 d has.1))

pub get_or-runs : (xs : List Run) (i : ℕ) (d e : Run) → i < length xs → get_or xs i d ≡ get_or xs i e
get_or-runs [] i d e within = absurd (omega arith)
get_or-runs (x ∷ xs) zero d e within = refl
get_or-runs (x ∷ xs) (suc i) d e within = get_or-runs xs i d e (omega arith)

-- ---- one result
some_same : (a b : ℕ) → Some a ≡ Some b → a ≡ b
some_same a b same = cc

pub settling_is_one : (t : ℕ) (tasks : List TaskSpec) (old one other : List Instance) → fault_of tasks ≡ None → length old ≡ length tasks → SettlesInstances t tasks old one → SettlesInstances t tasks old other → one ≡ other
settling_is_one t tasks old one other sound long first second =
    let order : List ℕ = order_of (upstream_rows tasks) in
    settled_is_one t tasks order (order_ruled tasks order refl) old one other long (order_whole tasks order refl sound) first second

-- the tasks of a DAG that is there, and what is known of them
found_sound : (dags : List DagRow) (dag_id : List ℕ) (n : ℕ) → All (λ row. fault_of row.dag.tasks ≡ None) dags → option_map (λ row. length row.dag.tasks) (dag_of dags dag_id) ≡ Some n → (fault_of (tasks_of dags dag_id) ≡ None) × (length (tasks_of dags dag_id) ≡ n)
found_sound [] dag_id n sound is = absurd (none-some n is)
found_sound (row ∷ dags) dag_id n sound is =
    ⊎_elim
    (λ (here : is_of_id dag_id row ≡ true).
    let found : dag_of (row ∷ dags) dag_id ≡ Some row = rw here refl in
    let tasks : tasks_of (row ∷ dags) dag_id ≡ row.dag.tasks = ap (λ o. option_map_or (λ (r : DagRow). r.dag.tasks) o []) found in
    let many : Some (length row.dag.tasks) ≡ Some n = sym (ap (option_map (λ (r : DagRow). length r.dag.tasks)) found) ∙ is in
    (ap fault_of tasks ∙ sound 0 row (omega arith), ap length tasks ∙ some_same (length row.dag.tasks) n many))
    (λ (other : is_of_id dag_id row ≡ false).
    let found : dag_of (row ∷ dags) dag_id ≡ dag_of dags dag_id = rw other refl in
    let tasks : tasks_of (row ∷ dags) dag_id ≡ tasks_of dags dag_id = ap (λ o. option_map_or (λ (r : DagRow). r.dag.tasks) o []) found in
    let rest = found_sound dags dag_id n (λ k d inside. sound (suc k) d (omega arith)) (sym (ap (option_map (λ (r : DagRow). length r.dag.tasks)) found) ∙ is) in
    (ap fault_of tasks ∙ rest.0, ap length tasks ∙ rest.1))
    (cases_Bool (is_of_id dag_id row))

-- a DAG that is there has as many tasks as is said
pub tasks_long : (dags : List DagRow) (dag_id : List ℕ) (n : ℕ) → option_map (λ row. length row.dag.tasks) (dag_of dags dag_id) ≡ Some n → length (tasks_of dags dag_id) ≡ n
tasks_long dags dag_id n is = of (dag_of dags dag_id) is
  where
    of : (o : Option DagRow) → option_map (λ row. length row.dag.tasks) o ≡ Some n → length (option_map_or (λ row. row.dag.tasks) o []) ≡ n
    of None none = absurd (none-some n none)
    of (Some row) some = some_same (length row.dag.tasks) n some

run_is_one : (t : ℕ) (dags : List DagRow) (old one other : Run) → All (λ row. fault_of row.dag.tasks ≡ None) dags → IsWhole dags old → SettlesIfLive t dags old one → SettlesIfLive t dags old other → one ≡ other
run_is_one t dags old one other sound whole = by (is_live dags old)
  where
    by : (live : Bool) → MatchBool live (SettlesRun t (tasks_of dags old.dag_id) old one) (one ≡ old) → MatchBool live (SettlesRun t (tasks_of dags old.dag_id) old other) (other ≡ old) → one ≡ other
    by true first second =
        let found = found_sound dags old.dag_id (length old.instances) sound whole in
        let same = settling_is_one t (tasks_of dags old.dag_id) old.instances one.instances other.instances found.0 (sym found.1) first.instances second.instances in
        first.rest ∙ ap (λ (xs : List Instance). record old { instances = xs }) same ∙ sym second.rest
    by false first second = first ∙ sym second

runs_are_one : (t : ℕ) (dags : List DagRow) (old one other : List Run) → All (λ row. fault_of row.dag.tasks ≡ None) dags → All (IsWhole dags) old → AllZip (SettlesIfLive t dags) old one → AllZip (SettlesIfLive t dags) old other → one ≡ other
runs_are_one t dags [] [] [] sound whole first second = refl
runs_are_one t dags [] [] (y ∷ ys) sound whole first second = absurd second
runs_are_one t dags [] (x ∷ xs) other sound whole first second = absurd first
runs_are_one t dags (run ∷ runs) [] other sound whole first second = absurd first
runs_are_one t dags (run ∷ runs) (x ∷ xs) [] sound whole first second = absurd second
runs_are_one t dags (run ∷ runs) (x ∷ xs) (y ∷ ys) sound whole first second =
    let here : x ≡ y = run_is_one t dags run x y sound (whole 0 run (omega arith)) first.0 second.0 in
    let rest : xs ≡ ys = runs_are_one t dags runs xs ys sound (λ k d inside. whole (suc k) d (omega arith)) first.1 second.1 in
    cc

pub settled_state_is_one : (t : ℕ) (old one other : StateRows) → AreRows old.dags old.runs → Settles t old one → Settles t old other → one ≡ other
settled_state_is_one t old one other are first second =
    first.rest ∙ ap (λ (runs : List Run). record old { runs = runs }) (runs_are_one t old.dags old.runs one.runs other.runs are.sound are.whole first.runs second.runs) ∙ sym second.rest
