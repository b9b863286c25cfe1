-- The third phase of a tick can be done on every state that is ready.
use Rattle.std.proofs.Common.{◌≡◌, ◌<◌, ◌≤◌, ◌+◌, ◌∙◌, ℕ, List, [], ◌∷◌, length, get_or, set, refl, sym, ap, subst, arith, zero, suc, Bool, true, false, ⊎_elim}
use Rattle.std.specs.Prelude.{All, None, Some, option_map, MatchBool}
use Rattle.std.specs.Option.{option_map_or}
use Rattle.std.specs.List.{AllZip}
use Rattle.std.proofs.lemmas.Bool.{cases_Bool}
use Rattle.std.proofs.lemmas.Option.{none-some}
use Rattle.std.proofs.lemmas.List.Elements.{All-cons}
use Rattle.af_graph.specs.Definition.{fault_of}
use Rattle.af_graph.specs.Graph.{upstream_rows}
use Rattle.af_graph.specs.Order.{IsOrder, order_of}
use Rattle.af_graph.specs.declared.task_spec.TaskSpec.{TaskSpec}
use Rattle.af_graph.specs.declared.task_state.TaskState.TheVariants.{NoStatus}
use Rattle.af_graph.proofs.DagLemmas.{order_ruled, order_whole}
use Rattle.af_graph.proofs.RowLemmas.{length-upstream_rows}
use Rattle.af_runs.specs.declared.instance.Instance.{Instance}
use Rattle.af_runs.specs.declared.run.Run.{Run}
use Rattle.af_sched.specs.Settle.{Settles, SettlesIfLive, SettlesInstances, SettlesRun, is_live, settled_instance, verdict_at}
use Rattle.af_sched.specs.State.{IsWhole, StateRows, dag_of, is_of_id, tasks_of}
use Rattle.af_sched.specs.declared.dag_row.DagRow.{DagRow}
use Rattle.af_sched.proofs.SettleLemmas.{Settling, Settling-ends, Settling-init, Settling-step}
use Rattle.af_world.specs.Ready.{IsReady}
use Rattle.af_world.proofs.ReadyLemmas.{Keeps, key_of, runs_keep, with_whole}

-- ---- the instances of a run, one after the other in the order of the graph

get_or-any : (xs : List Instance) (i : ℕ) (d e : Instance) → i < length xs → get_or xs i d ≡ get_or xs i e
get_or-any [] i d e within = absurd (omega arith)
get_or-any (x ∷ xs) zero d e within = refl
get_or-any (x ∷ xs) (suc i) d e within = get_or-any xs i d e (omega arith)

any_instance : Instance
any_instance = record { state = NoStatus; try_number = 0; max_tries = 0; start_date = None; end_date = None; retry_at = None }

module _ (t : ℕ) (tasks : List TaskSpec) (order : List ℕ) (is_order : IsOrder (upstream_rows tasks) order) (old : List Instance) (long : length old ≡ length tasks) (inside : (turn : ℕ) → turn < length order → get_or order turn 0 < length old) where
  turns_taken : (turns : ℕ) → turns ≤ length order → (now : List Instance) × Settling t tasks order turns old now
  turns_taken zero le = (old, Settling-init t tasks order old)
  turns_taken (suc turns) le =
      let was = turns_taken turns (omega arith) in
      let place : ℕ = get_or order turns 0 in
      let within : place < length was.0 = omega (arith, inside turns (omega arith), was.1.count) in
      let blank : Instance = get_or was.0 place any_instance in
      let new : List Instance = set was.0 place (settled_instance t (verdict_at tasks was.0 place) blank) in
      let sets = λ (d : Instance). ap (λ (x : Instance). set was.0 place (settled_instance t (verdict_at tasks was.0 place) x)) (get_or-any was.0 place any_instance d within) in
      let more : turns + 1 ≡ suc turns = omega arith in
      (new, subst (λ (n : ℕ). Settling t tasks order n old new) more (Settling-step t tasks order is_order turns place old was.0 new refl (omega arith) long sets was.1))

-- each place of the order is one of the tasks'
module _ (t : ℕ) (tasks : List TaskSpec) (old : List Instance) (sound : fault_of tasks ≡ None) (long : length old ≡ length tasks) where
  abbrev order : List ℕ
  order = order_of (upstream_rows tasks)

  is_order : IsOrder (upstream_rows tasks) order
  is_order = order_ruled tasks order refl

  within : (turn : ℕ) → turn < length order → get_or order turn 0 < length old
  within turn low = omega (arith, (is_order.step turn low).free.here, length-upstream_rows tasks, long)

  instances_settled : (new : List Instance) × SettlesInstances t tasks old new
  instances_settled =
      let last = turns_taken t tasks order is_order old long within (length order) (omega arith) in
      (last.0, Settling-ends t tasks order is_order old last.0 (λ place low. order_whole tasks order refl sound place (omega (arith, low, long))) last.1)

-- ---- the runs

-- the tasks of a DAG that is there, and what is known of them
some_same : (a b : ℕ) → Some a ≡ Some b → a ≡ b
some_same a b same = cc

found_sound : (dags : List DagRow) (dag_id : List ℕ) (n : ℕ) → All (λ row. fault_of row.dag.tasks ≡ None) dags → option_map (λ row. length row.dag.tasks) (dag_of dags dag_id) ≡ Some n → (fault_of (tasks_of dags dag_id) ≡ None) × (length (tasks_of dags dag_id) ≡ n)
found_sound [] dag_id n sound is = absurd (none-some n is)
found_sound (row ∷ dags) dag_id n sound is =
    ⊎_elim
    (λ (here : is_of_id dag_id row ≡ true).
    let found : dag_of (row ∷ dags) dag_id ≡ Some row = rw here refl in
    let tasks : tasks_of (row ∷ dags) dag_id ≡ row.dag.tasks = ap (λ o. option_map_or (λ (r : DagRow). r.dag.tasks) o []) found in
    let many : Some (length row.dag.tasks) ≡ Some n = sym (ap (option_map (λ (r : DagRow). length r.dag.tasks)) found) ∙ is in
    (ap fault_of tasks ∙ sound 0 row (omega arith), ap length tasks ∙ some_same (length row.dag.tasks) n many))
    (λ (other : is_of_id dag_id row ≡ false).
    let found : dag_of (row ∷ dags) dag_id ≡ dag_of dags dag_id = rw other refl in
    let tasks : tasks_of (row ∷ dags) dag_id ≡ tasks_of dags dag_id = ap (λ o. option_map_or (λ (r : DagRow). r.dag.tasks) o []) found in
    let rest = found_sound dags dag_id n (λ k d inside. sound (suc k) d (omega arith)) (sym (ap (option_map (λ (r : DagRow). length r.dag.tasks)) found) ∙ is) in
    (ap fault_of tasks ∙ rest.0, ap length tasks ∙ rest.1))
    (cases_Bool (is_of_id dag_id row))

module _ (t : ℕ) (dags : List DagRow) (sound : All (λ row. fault_of row.dag.tasks ≡ None) dags) where
  run_settled : (run : Run) → IsWhole dags run → (new : Run) × SettlesIfLive t dags run new
  run_settled run whole = by (is_live dags run)
    where
      by : (live : Bool) → (new : Run) × MatchBool live (SettlesRun t (tasks_of dags run.dag_id) run new) (new ≡ run)
      by false = (run, refl)
      by true =
          let found = found_sound dags run.dag_id (length run.instances) sound whole in
          let settled = instances_settled t (tasks_of dags run.dag_id) run.instances found.0 (sym found.1) in
          (record run { instances = settled.0 }, record { instances = settled.1; rest = refl })

  runs_settled : (runs : List Run) → All (IsWhole dags) runs → (new : List Run) × AllZip (SettlesIfLive t dags) runs new
  runs_settled [] whole = ([], tt)
  runs_settled (run ∷ runs) whole =
      let here = run_settled run (whole 0 run (omega arith)) in
      let rest = runs_settled runs (λ k d inside. whole (suc k) d (omega arith)) in
      (here.0 ∷ rest.0, (here.1, rest.1))

-- ---- what is left is ready

keeps_settled : (t : ℕ) (dags : List DagRow) (xs ys : List Run) → AllZip (SettlesIfLive t dags) xs ys → Keeps xs ys
keeps_settled t dags [] [] all = tt
keeps_settled t dags [] (y ∷ ys) all = absurd all
keeps_settled t dags (x ∷ xs) [] all = absurd all
keeps_settled t dags (x ∷ xs) (y ∷ ys) all = (here (is_live dags x) all.0, keeps_settled t dags xs ys all.1)
  where
    here : (b : Bool) → MatchBool b (SettlesRun t (tasks_of dags x.dag_id) x y) (y ≡ x) → key_of y ≡ key_of x
    here true is = ap key_of is.rest
    here false is = ap key_of is

module _ (dags : List DagRow) where
  whole_settled_one : (t : ℕ) (x y : Run) (b : Bool) → MatchBool b (SettlesRun t (tasks_of dags x.dag_id) x y) (y ≡ x) → IsWhole dags x → IsWhole dags y
  whole_settled_one t x y true is whole =
      let same : y.dag_id ≡ x.dag_id = ap (λ (run : Run). run.dag_id) is.rest in
      ap (λ (id : List ℕ). option_map (λ (row : DagRow). length row.dag.tasks) (dag_of dags id)) same ∙ whole ∙ ap Some (sym is.instances.count)
  whole_settled_one t x y false is whole = subst (IsWhole dags) (sym is) whole

  whole_settled : (t : ℕ) (xs ys : List Run) → AllZip (SettlesIfLive t dags) xs ys → All (IsWhole dags) xs → All (IsWhole dags) ys
  whole_settled t [] [] all whole = whole
  whole_settled t [] (y ∷ ys) all whole = absurd all
  whole_settled t (x ∷ xs) [] all whole = absurd all
  whole_settled t (x ∷ xs) (y ∷ ys) all whole =
      All-cons (IsWhole dags) y ys (whole_settled_one t x y (is_live dags x) all.0 (whole 0 x (omega arith))) (whole_settled t xs ys all.1 (λ j e low. whole (suc j) e (omega arith)))

-- the phase leaves a state that is ready
pub record HasSettled (t : ℕ) (old : StateRows) : Type 0 where
  pub new : StateRows
  pub settles : Settles t old new
  pub ready : IsReady new

pub has_settled : (t : ℕ) (old : StateRows) → IsReady old → HasSettled t old
has_settled t old ready =
    let runs = runs_settled t old.dags ready.is.rows.sound old.runs ready.is.rows.whole in
    record {
      new = record old { runs = runs.0 };
      settles = record { runs = runs.1; rest = refl };
      ready = record {
        is = record {
          rows = with_whole old.dags old.runs runs.0 (whole_settled old.dags t old.runs runs.0 runs.1 ready.is.rows.whole) ready.is.rows;
          runs = runs_keep old.runs runs.0 old.next_run (keeps_settled t old.dags old.runs runs.0 runs.1) ready.is.runs;
        };
        next = ready.next;
      };
    }
