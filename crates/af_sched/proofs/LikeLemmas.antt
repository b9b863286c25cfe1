-- DAGs whose cursors alone differ, or whose cursors and pauses alone, are looked up alike.
use Rattle.std.proofs.Common.{◌≡◌, ◌<◌, ◌+◌, ◌∙◌, ℕ, List, [], ◌∷◌, ◌++◌, take, length, map, get_or, refl, sym, ap, subst, arith, zero, suc, Bool, true, false, cond, ◌&&◌, ⊎_elim}
use Rattle.std.specs.Prelude.{All, None, Some, Option, option_map, Contains, flat_map, nat_lt, nat_le, not, MatchBool}
use Rattle.std.specs.List.{AllZip}
use Rattle.std.specs.List.Sorted.{IsStrictlySortedBy}
use Rattle.std.specs.Ordering.{nat_cmp}
use Rattle.std.specs.Option.{option_map_or}
use Rattle.std.specs.Cmp.Lexicographic.{slice_cmp}
use Rattle.std.proofs.lemmas.Bool.{cases_Bool}
use Rattle.std.proofs.lemmas.List.Elements.{All-cons}
use Rattle.af_graph.specs.Definition.{fault_of}
use Rattle.af_graph.specs.Graph.{same_name}
use Rattle.af_graph.specs.declared.dag_spec.DagSpec.{DagSpec}
use Rattle.af_graph.specs.declared.task_spec.TaskSpec.{TaskSpec}
use Rattle.af_pool.specs.declared.pool.Pool.{Pool}
use Rattle.af_pool.specs.Occupants.{slots_taken}
use Rattle.af_pool.specs.Pools.{slots_of}
use Rattle.af_runs.specs.declared.run.Run.{Run}
use Rattle.af_sched.specs.Create.{moved_row}
use Rattle.af_sched.specs.Finish.{finished_run}
use Rattle.af_sched.specs.Moves.{finished_runs}
use Rattle.af_sched.specs.Placed.{Placed, placed_of, placed_in}
use Rattle.af_sched.specs.Plan.{with_cursors}
use Rattle.af_sched.specs.Queue.{IsQueueing, occupant_of, queued_earlier}
use Rattle.af_sched.specs.Settle.{SettlesIfLive, SettlesRun, is_live}
use Rattle.af_sched.specs.Start.{started_run, started_runs, is_queued, is_running, running_of, queued_before}
use Rattle.af_sched.specs.State.{AreRows, IsWhole, dag_of, is_of_id, is_unpaused, most_running, tasks_of, with_paused}
use Rattle.af_sched.specs.declared.dag_row.DagRow.{DagRow}

abbrev pub Alike : List DagRow → List DagRow → Type 0
Alike old new = AllZip (λ one other. (other.dag ≡ one.dag) × (other.is_paused ≡ one.is_paused)) old new

pub alike_with : (dags : List DagRow) (cursors : List (Option ℕ)) → length cursors ≡ length dags → Alike dags (with_cursors dags cursors)
alike_with [] [] long = tt
alike_with [] (c ∷ cursors) long = tt
alike_with (row ∷ dags) [] long = absurd (omega arith)
alike_with (row ∷ dags) (c ∷ cursors) long = ((refl, refl), alike_with dags cursors (omega arith))

read_same : {B : Type 0} (F : Option DagRow → B) → ((one other : DagRow) → other.dag ≡ one.dag → other.is_paused ≡ one.is_paused → F (Some other) ≡ F (Some one)) → (old new : List DagRow) → Alike old new → (id : List ℕ) → F (dag_of new id) ≡ F (dag_of old id)
read_same F same [] [] alike id = refl
read_same F same [] (y ∷ ys) alike id = absurd alike
read_same F same (x ∷ xs) [] alike id = absurd alike
read_same F same (x ∷ xs) (y ∷ ys) alike id =
    let here : is_of_id id y ≡ is_of_id id x = ap (λ (dag : Rattle.af_graph.specs.declared.dag_spec.DagSpec.DagSpec). Rattle.af_graph.specs.Graph.same_name dag.dag_id id) alike.0.0 in
    let rest = read_same F same xs ys alike.1 id in
    ⊎_elim
    (λ (is : is_of_id id x ≡ true). rw (here, is) (same x y alike.0.0 alike.0.1))
    (λ (other : is_of_id id x ≡ false). rw (here, other) rest)
    (cases_Bool (is_of_id id x))

module _ (old new : List DagRow) (alike : Alike old new) where
  pub tasks_alike : tasks_of new ≡ tasks_of old
  tasks_alike i id = read_same (λ o. option_map_or (λ (row : DagRow). row.dag.tasks) o []) (λ one other dag paused. ap (λ d. d.tasks) dag) old new alike id i

  pub unpaused_alike : is_unpaused new ≡ is_unpaused old
  unpaused_alike i id = read_same (λ o. option_map_or (λ (row : DagRow). not row.is_paused) o false) (λ one other dag paused. ap not paused) old new alike id i

  pub most_alike : most_running new ≡ most_running old
  most_alike i id = read_same (λ o. option_map_or (λ (row : DagRow). row.dag.max_active_runs) o 0) (λ one other dag paused. ap (λ d. d.max_active_runs) dag) old new alike id i

  pub started_alike : (t : ℕ) (runs : List Run) → started_runs t new runs ≡ started_runs t old runs
  started_alike t runs i =
      map (λ run. cond (is_queued run.state && unpaused_alike i run.dag_id && nat_lt (running_of runs run.dag_id + queued_before runs run) (most_alike i run.dag_id)) (started_run t run) run) runs

  pub settled_alike : (t : ℕ) (xs ys : List Run) → AllZip (SettlesIfLive t old) xs ys → AllZip (SettlesIfLive t new) xs ys
  settled_alike t xs ys all =
      subst (λ (f : List ℕ → Bool). AllZip (λ one other. MatchBool (is_running one.state && f one.dag_id) (SettlesRun t (tasks_of new one.dag_id) one other) (other ≡ one)) xs ys) (sym unpaused_alike)
      (subst (λ (f : List ℕ → List TaskSpec). AllZip (λ one other. MatchBool (is_live old one) (SettlesRun t (f one.dag_id) one other) (other ≡ one)) xs ys) (sym tasks_alike) all)

  pub placed_alike : (runs : List Run) → placed_in new runs ≡ placed_in old runs
  placed_alike runs i = flat_map (λ run. placed_of (tasks_alike i run.dag_id) run) runs

  pub finished_alike : (t : ℕ) (runs : List Run) → finished_runs t new runs ≡ finished_runs t old runs
  finished_alike t runs i = map (λ run. finished_run t (tasks_alike i run.dag_id) run) runs

  pub queueing_alike : (runs : List Run) (pools : List Pool) (q : ℕ → ℕ → Bool) → IsQueueing old runs pools q → IsQueueing new runs pools q
  queueing_alike runs pools q is = record {
    exact = λ placed has.
        is.exact placed (subst (λ (xs : List Placed). Contains xs placed) (placed_alike runs) has)
        ∙ (λ i. Rattle.af_graph.specs.States.same_state placed.instance.state Rattle.af_graph.specs.declared.task_state.TaskState.TheVariants.Scheduled && (is_running placed.run.state && sym unpaused_alike i placed.run.dag_id) && nat_le (placed.task.pool_slots + slots_taken placed.task.pool (map occupant_of (sym (placed_alike runs) i)) + queued_earlier q (sym (placed_alike runs) i) placed) (slots_of pools placed.task.pool));
  }

-- ---- the definitions alone
abbrev pub SameDags : List DagRow → List DagRow → Type 0
SameDags old new = AllZip (λ one other. other.dag ≡ one.dag) old new

pub same_dags : (old new : List DagRow) → Alike old new → SameDags old new
same_dags [] [] alike = tt
same_dags [] (y ∷ ys) alike = absurd alike
same_dags (x ∷ xs) [] alike = absurd alike
same_dags (x ∷ xs) (y ∷ ys) alike = (alike.0.0, same_dags xs ys alike.1)

paused_dag : (b : Bool) (is_paused : Bool) (row : DagRow) → (cond b (record row { is_paused = is_paused }) row).dag ≡ row.dag
paused_dag true is_paused row = refl
paused_dag false is_paused row = refl

pub same_paused : (dags : List DagRow) (id : List ℕ) (is_paused : Bool) → SameDags dags (with_paused dags id is_paused)
same_paused [] id is_paused = tt
same_paused (row ∷ dags) id is_paused = (paused_dag (is_of_id id row) is_paused row, same_paused dags id is_paused)

tasks_same : (old new : List DagRow) → SameDags old new → (id : List ℕ) → option_map (λ (row : DagRow). length row.dag.tasks) (dag_of new id) ≡ option_map (λ (row : DagRow). length row.dag.tasks) (dag_of old id)
tasks_same [] [] same id = refl
tasks_same [] (y ∷ ys) same id = absurd same
tasks_same (x ∷ xs) [] same id = absurd same
tasks_same (x ∷ xs) (y ∷ ys) same id =
    let here : is_of_id id y ≡ is_of_id id x = ap (λ (dag : DagSpec). same_name dag.dag_id id) same.0 in
    let rest = tasks_same xs ys same.1 id in
    ⊎_elim
    (λ (is : is_of_id id x ≡ true). rw (here, is) (ap (λ (dag : DagSpec). Some (length dag.tasks)) same.0))
    (λ (other : is_of_id id x ≡ false). rw (here, other) rest)
    (cases_Bool (is_of_id id x))

whole_same : (old new : List DagRow) → SameDags old new → (runs : List Run) → All (IsWhole old) runs → All (IsWhole new) runs
whole_same old new same runs whole k d inside = tasks_same old new same (get_or runs k d).dag_id ∙ whole k d inside

ids_same : (old new : List DagRow) → SameDags old new → map (λ (row : DagRow). row.dag.dag_id) new ≡ map (λ (row : DagRow). row.dag.dag_id) old
ids_same [] [] same = refl
ids_same [] (y ∷ ys) same = absurd same
ids_same (x ∷ xs) [] same = absurd same
ids_same (x ∷ xs) (y ∷ ys) same = λ i. (same.0 i).dag_id ∷ ids_same xs ys same.1 i

long_same : (old new : List DagRow) → SameDags old new → length new ≡ length old
long_same [] [] same = refl
long_same [] (y ∷ ys) same = absurd same
long_same (x ∷ xs) [] same = absurd same
long_same (x ∷ xs) (y ∷ ys) same = ap suc (long_same xs ys same.1)

sound_same : (old new : List DagRow) → SameDags old new → All (λ row. fault_of row.dag.tasks ≡ None) old → All (λ row. fault_of row.dag.tasks ≡ None) new
sound_same [] [] same sound = sound
sound_same [] (y ∷ ys) same sound = absurd same
sound_same (x ∷ xs) [] same sound = absurd same
sound_same (x ∷ xs) (y ∷ ys) same sound =
    All-cons (λ (row : DagRow). fault_of row.dag.tasks ≡ None) y ys (ap (λ dag. fault_of dag.tasks) same.0 ∙ sound 0 x (omega arith)) (sound_same xs ys same.1 (λ j e low. sound (suc j) e (omega arith)))

pub AreRows-same : (old new : List DagRow) (was runs : List Run) → SameDags old new → All (IsWhole old) runs → AreRows old was → AreRows new runs
AreRows-same old new was runs same whole are = record {
  in_order = subst (IsStrictlySortedBy (slice_cmp nat_cmp)) (sym (ids_same old new same)) are.in_order;
  few = let long = long_same old new same in let few = are.few in omega (arith, long, few);
  sound = sound_same old new same are.sound;
  whole = whole_same old new same runs whole;
}

-- the cursors that the first phase leaves
moved_as : (t : ℕ) (row : DagRow) → record row { cursor = (moved_row t row).cursor } ≡ moved_row t row
moved_as t row = by row.is_paused
  where
    by : (b : Bool) → record row { cursor = (cond b row (record row { cursor = option_map_or (λ schedule. option_map_or (Rattle.af_sched.specs.Create.cursor_due t row.dag (Rattle.af_graph.specs.Schedules.is_scheduled schedule)) row.cursor None) row.dag.schedule row.cursor })).cursor } ≡ cond b row (record row { cursor = option_map_or (λ schedule. option_map_or (Rattle.af_sched.specs.Create.cursor_due t row.dag (Rattle.af_graph.specs.Schedules.is_scheduled schedule)) row.cursor None) row.dag.schedule row.cursor })
    by true = refl
    by false = refl

pub moved_with : (t : ℕ) (dags : List DagRow) → with_cursors dags (map (λ row. (moved_row t row).cursor) dags) ≡ map (moved_row t) dags
moved_with t [] = refl
moved_with t (row ∷ dags) = λ i. moved_as t row i ∷ moved_with t dags i

-- ---- cursors one by one
pub cursors_from : (dags now : List DagRow) (cursors : List (Option ℕ)) → length now ≡ length dags → length cursors ≡ length dags → ((k : ℕ) (d : DagRow) → k < length dags → get_or now k d ≡ record (get_or dags k d) { cursor = get_or cursors k None }) → now ≡ with_cursors dags cursors
cursors_from [] [] cursors long many each = none cursors many
  where
    none : (cs : List (Option ℕ)) → length cs ≡ 0 → [] ≡ with_cursors [] cs
    none [] long = refl
    none (c ∷ cs) long = absurd (omega arith)
cursors_from [] (y ∷ ys) cursors long many each = absurd (omega arith)
cursors_from (x ∷ xs) [] cursors long many each = absurd (omega arith)
cursors_from (x ∷ xs) (y ∷ ys) [] long many each = absurd (omega arith)
cursors_from (x ∷ xs) (y ∷ ys) (c ∷ cs) long many each =
    let rest = cursors_from xs ys cs (omega arith) (omega arith) (λ k d inside. each (suc k) d (omega arith)) in
    λ i. each 0 x (omega arith) i ∷ rest i

pub with_at : (dags : List DagRow) (cursors : List (Option ℕ)) (k : ℕ) (d : DagRow) → length cursors ≡ length dags → k < length dags → (get_or (with_cursors dags cursors) k d).cursor ≡ get_or cursors k None
with_at [] cursors k d many inside = absurd (omega arith)
with_at (x ∷ xs) [] k d many inside = absurd (omega arith)
with_at (x ∷ xs) (c ∷ cs) zero d many inside = refl
with_at (x ∷ xs) (c ∷ cs) (suc k) d many inside = with_at xs cs k d (omega arith) (omega arith)

front_of : {X : Type 0} (xs ys : List X) → take (length xs) (xs ++ ys) ≡ xs
front_of [] ys = refl
front_of (x ∷ xs) ys = λ i. x ∷ front_of xs ys i

pub front : {X : Type 0} (n : ℕ) (xs ys : List X) → n ≡ length xs → take n (xs ++ ys) ≡ xs
front n xs ys is = ap (λ m. take m (xs ++ ys)) is ∙ front_of xs ys
