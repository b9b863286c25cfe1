-- The slots of a pool that are held are those of its instances, run by run.
use Rattle.std.proofs.Common.{◌≡◌, ◌+◌, ◌-◌, ◌^◌, ◌∙◌, ℕ, List, [], ◌∷◌, ◌++◌, map, refl, sym, ap, arith, Bool, true, false, cond, ◌&&◌, min}
use Rattle.std.specs.Prelude.{filter, sum_by, zip}
use Rattle.std.proofs.lemmas.List.Sums.{sum_by-cons}
use Rattle.af_graph.specs.Graph.{same_name}
use Rattle.af_graph.specs.States.{same_state}
use Rattle.af_graph.specs.declared.task_spec.TaskSpec.{TaskSpec}
use Rattle.af_graph.specs.declared.task_state.TaskState.{TaskState}
use Rattle.af_graph.specs.declared.task_state.TaskState.TheVariants.{Queued, Running}
use Rattle.af_pool.specs.Occupants.{OccupantRow, is_there_in, slots_in, slots_of_all, slots_taken}
use Rattle.af_pool.specs.Pools.{has_pool}
use Rattle.af_pool.proofs.SlotLemmas.{occupied_parts}
use Rattle.af_runs.specs.declared.instance.Instance.{Instance}
use Rattle.af_runs.specs.declared.run.Run.{Run}
use Rattle.af_sched.specs.Holding.{held_in}
use Rattle.af_sched.specs.Laws.{HeldSlotsAreThoseOfInstances, slots_in_run, slots_in_runs}
use Rattle.af_sched.specs.Placed.{Placed, placed_in}
use Rattle.af_sched.specs.Queue.{occupant_of}
use Rattle.af_sched.specs.State.{StateRows, tasks_of}
use Rattle.af_sched.specs.declared.dag_row.DagRow.{DagRow}
use Rattle.af_sched.proofs.SlotsLemmas.{rows}

-- a task and its instance; the slots that they take
abbrev Row : Type 0
Row = TaskSpec × Instance

abbrev slots_of_row : Row → ℕ
slots_of_row row = row.0.pool_slots

-- one more instance adds its slots to both sides alike
one_more : (is : Bool) (one : OccupantRow) (more : List OccupantRow) (row : Row) (rest : List Row) (others : ℕ) → one.slots ≡ row.0.pool_slots → slots_of_all more ≡ sum_by slots_of_row rest + others → slots_of_all (cond is (one ∷ more) more) ≡ sum_by slots_of_row (cond is (row ∷ rest) rest) + others
one_more false one more row rest others same sums = sums
one_more true one more row rest others same sums =
    rw (sum_by-cons (λ (o : OccupantRow). o.slots) one more, sum_by-cons slots_of_row row rest) (omega (arith, same, sums))

module _ (task_state : TaskState) (name : List ℕ) where
  abbrev is_in : Row → Bool
  is_in row = same_name row.0.pool name && same_state row.1.state task_state

  abbrev slots_among : List Placed → ℕ
  slots_among all = slots_in task_state name (map occupant_of all)

  in_run : (run : Run) (n : ℕ) (tasks : List TaskSpec) (instances : List Instance) (ys : List Placed) → slots_among (rows run n tasks instances ++ ys) ≡ sum_by slots_of_row (filter is_in (zip tasks instances)) + slots_among ys
  in_run run n [] xs ys = omega arith
  in_run run n (t ∷ ts) [] ys = omega arith
  in_run run n (t ∷ ts) (x ∷ xs) ys =
      one_more (is_in (t, x)) (occupant_of (record { run = run; place = n; task = t; instance = x }))
      (filter (is_there_in task_state name) (map occupant_of (rows run (n + 1) ts xs ++ ys)))
      (t, x) (filter is_in (zip ts xs)) (slots_among ys) refl (in_run run (n + 1) ts xs ys)

  in_runs : (dags : List DagRow) (runs : List Run) → slots_among (placed_in dags runs) ≡ sum_by (λ run. slots_in_run task_state name (tasks_of dags run.dag_id) run) runs
  in_runs dags [] = refl
  in_runs dags (run ∷ runs) =
      in_run run 0 (tasks_of dags run.dag_id) run.instances (placed_in dags runs)
      ∙ ap (λ (k : ℕ). slots_in_run task_state name (tasks_of dags run.dag_id) run + k) (in_runs dags runs)
      ∙ sym (sum_by-cons (λ (r : Run). slots_in_run task_state name (tasks_of dags r.dag_id) r) run runs)

in_state : (task_state : TaskState) (state : StateRows) (name : List ℕ) → has_pool state.pools name ≡ true → held_in task_state state name ≡ slots_in_runs task_state state name
in_state task_state state name there =
    ap (λ (is : Bool). cond is (slots_in task_state name (map occupant_of (placed_in state.dags state.runs))) 0) there
    ∙ in_runs task_state name state.dags state.runs

pub held_of_instances : HeldSlotsAreThoseOfInstances
held_of_instances state name there =
    let queued : held_in Queued state name ≡ slots_in_runs Queued state name = in_state Queued state name there in
    let running : held_in Running state name ≡ slots_in_runs Running state name = in_state Running state name there in
    let all : List OccupantRow = map occupant_of (placed_in state.dags state.runs) in (
      (λ i. record { queued = min (queued i) (2 ^ 64 - 1); running = min (running i) (2 ^ 64 - 1) }),
      (λ i. sym queued i + sym running i) ∙ sym (occupied_parts state.pools name all) ∙ ap (λ (is : Bool). cond is (slots_taken name all) 0) there,
    )
