-- Listings stand in order, and what is read leaves the state.
use Rattle.std.proofs.Common.{◌≡◌, ℕ, Bool, List}
use Rattle.std.specs.Prelude.{Option, Some, None, Result, Ok, Err, ok_or}
use Rattle.std.specs.Cmp.Lexicographic.{nat_list_cmp_total}
use Rattle.serde_json.specs.Data.{Data}
use Rattle.af_base.specs.Readings.{◌>>=◌}
use Rattle.af_listing.specs.Windows.{Cut}
use Rattle.af_names.proofs.OrderLemmas.{order-filter}
use Rattle.af_policy.specs.declared.bad_input.Parameter.{Parameter}
use Rattle.af_runs.specs.Runs.{run_of, runs_of}
use Rattle.af_runs.specs.declared.run.Run.{Run}
use Rattle.af_sched.specs.State.{StateRows}
use Rattle.af_sched.specs.State as sched
use Rattle.af_sched.specs.declared.dag_row.DagRow.{DagRow}
use Rattle.af_policy.specs.Grants.{shows_runs}
use Rattle.af_ops.specs.declared.answer.OpFault.TheVariants.{NoSuchDag, NoSuchRun, NoSuchTask}
use Rattle.af_ops.specs.declared.op.Op.TheVariants as op
use Rattle.af_ops.specs.Effects.{Effect, dags_data, instance_of, instances_data, kept, listed_runs, runs_data, tasks_data, window_or}
use Rattle.af_ops.specs.Laws.{ListingsGoById, ReadingsLeaveTheState}
use Rattle.af_ops.specs.Listings.{read_rows}
use Rattle.af_ops.specs.Replies.{dag_data, instance_data, run_data}
use Rattle.af_ops.specs.Rows.{InstanceTold}
use Rattle.af_ops.proofs.ListingLemmas.{kept_next, order_cut, window_kept}
use Rattle.af_ops.proofs.PoolLemmas.{pools_keep}
use Rattle.af_ops.proofs.VariableLemmas.{variables_keep}

id_of : DagRow → List ℕ
id_of row = row.dag.dag_id

pub listings_in_order : ListingsGoById
unfolding id_of
listings_in_order reads window state are =
    order_cut id_of nat_list_cmp_total window (read_rows reads (λ (row : DagRow). row.dag.dag_id) state.dags)
    (order-filter id_of nat_list_cmp_total (λ (row : DagRow). reads row.dag.dag_id) state.dags are)

-- ---- operations at one DAG

-- one DAG: found or not, the state stays
got_kept : (found : Option DagRow) (effect : Effect) → (ok_or found NoSuchDag >>= (λ row. Ok (kept (dag_data row)))) ≡ Ok effect → effect.next ≡ None
got_kept None effect is = cc
got_kept (Some row) effect is = kept_next (dag_data row) effect is

-- one run
run_kept : (dag : Option DagRow) (run : Option Run) (effect : Effect) → (ok_or dag NoSuchDag >>= (λ row. ok_or run NoSuchRun >>= (λ it. Ok (kept (run_data it))))) ≡ Ok effect → effect.next ≡ None
run_kept None run effect is = cc
run_kept (Some row) None effect is = cc
run_kept (Some row) (Some run) effect is = kept_next (run_data run) effect is

-- instances
instances_kept : (asked : Result Cut Parameter) (dag : Option DagRow) (run : Option Run) (effect : Effect) → (window_or asked >>= (λ window. ok_or dag NoSuchDag >>= (λ row. ok_or run NoSuchRun >>= (λ it. Ok (kept (instances_data window row.dag.tasks it)))))) ≡ Ok effect → effect.next ≡ None
instances_kept (Err parameter) dag run effect is = cc
instances_kept (Ok window) None run effect is = cc
instances_kept (Ok window) (Some row) None effect is = cc
instances_kept (Ok window) (Some row) (Some run) effect is = kept_next (instances_data window row.dag.tasks run) effect is

told_kept : (told : Option InstanceTold) (effect : Effect) → (ok_or told NoSuchTask >>= (λ it. Ok (kept (instance_data it)))) ≡ Ok effect → effect.next ≡ None
told_kept None effect is = cc
told_kept (Some told) effect is = kept_next (instance_data told) effect is

instance_kept : (dag : Option DagRow) (run : Option Run) (task_id : List ℕ) (effect : Effect) → (ok_or dag NoSuchDag >>= (λ row. ok_or run NoSuchRun >>= (λ it. ok_or (instance_of row.dag.tasks it task_id) NoSuchTask >>= (λ told. Ok (kept (instance_data told)))))) ≡ Ok effect → effect.next ≡ None
instance_kept None run task_id effect is = cc
instance_kept (Some row) None task_id effect is = cc
instance_kept (Some row) (Some run) task_id effect is = told_kept (instance_of row.dag.tasks run task_id) effect is

-- tasks
tasks_kept : (dag : Option DagRow) (effect : Effect) → (ok_or dag NoSuchDag >>= (λ row. Ok (kept (tasks_data row.dag.tasks)))) ≡ Ok effect → effect.next ≡ None
tasks_kept None effect is = cc
tasks_kept (Some row) effect is = kept_next (tasks_data row.dag.tasks) effect is

-- runs
runs_kept : (asked : Result Cut Parameter) (dag : Option DagRow) (reply : Cut → Data) (effect : Effect) → (window_or asked >>= (λ window. ok_or dag NoSuchDag >>= (λ row. Ok (kept (reply window))))) ≡ Ok effect → effect.next ≡ None
runs_kept (Err parameter) dag reply effect is = cc
runs_kept (Ok window) None reply effect is = cc
runs_kept (Ok window) (Some row) reply effect is = kept_next (reply window) effect is

listed_kept : (reads : List ℕ → Bool) (state : StateRows) (dag : Option (List ℕ)) (asked : Result Cut Parameter) (effect : Effect) → listed_runs reads state dag asked ≡ Ok effect → effect.next ≡ None
listed_kept reads state None asked effect is = window_kept asked (λ window. runs_data window (read_rows reads (λ (run : Run). run.dag_id) state.runs)) effect is
listed_kept reads state (Some dag_id) asked effect is = runs_kept asked (sched.dag_of state.dags dag_id) (λ window. runs_data window (runs_of state.runs dag_id)) effect is

pub readings_keep : ReadingsLeaveTheState
readings_keep reads state op.Version now effect get is = cc
readings_keep reads state (op.ListDags asked) now effect get is = window_kept asked (λ window. dags_data reads.dags window state.dags) effect is
readings_keep reads state (op.GetDag dag_id) now effect get is = got_kept (sched.dag_of state.dags dag_id) effect is
readings_keep reads state (op.PauseDag dag_id input) now effect get is = cc
readings_keep reads state (op.ListTasks dag_id) now effect get is = tasks_kept (sched.dag_of state.dags dag_id) effect is
readings_keep reads state (op.ListRuns dag asked) now effect get is = listed_kept (shows_runs reads) state dag asked effect is
readings_keep reads state (op.TriggerRun dag_id input) now effect get is = cc
readings_keep reads state (op.GetRun dag_id run_id) now effect get is = run_kept (sched.dag_of state.dags dag_id) (run_of state.runs dag_id run_id) effect is
readings_keep reads state (op.MarkRun dag_id run_id input) now effect get is = cc
readings_keep reads state (op.DeleteRun dag_id run_id) now effect get is = cc
readings_keep reads state (op.ClearRun dag_id run_id input) now effect get is = cc
readings_keep reads state (op.ClearInstances dag_id input) now effect get is = cc
readings_keep reads state (op.ListInstances dag_id run_id asked) now effect get is = instances_kept asked (sched.dag_of state.dags dag_id) (run_of state.runs dag_id run_id) effect is
readings_keep reads state (op.GetInstance dag_id run_id task_id) now effect get is = instance_kept (sched.dag_of state.dags dag_id) (run_of state.runs dag_id run_id) task_id effect is
readings_keep reads state (op.BackfillDag dag_id input) now effect get is = cc
readings_keep reads state (op.Pool it) now effect get is = pools_keep state it effect get is
readings_keep reads state (op.Variable it) now effect get is = variables_keep state it effect get is
