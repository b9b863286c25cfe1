-- What a request asks for, of any kind: which row of the table it is of, and what of it was read.
use Rattle.std.specs.Prelude.{◌≡◌, ◌⊎◌, ℕ, List, Option, Some, None, option_map, if◌then◌else◌}
use Rattle.af_listing.specs.Windows.{window_of}
use Rattle.af_policy.specs.declared.change.Change.TheVariants as change
use Rattle.af_policy.specs.declared.policy_read.PolicyRead.TheVariants as reading
use Rattle.af_ops.specs.declared.call.Call.{Call}
use Rattle.af_ops.specs.declared.call.Call.TheVariants.{State, Entries, Policy}
use Rattle.af_ops.specs.declared.endpoint.Endpoint.{Endpoint}
use Rattle.af_ops.specs.declared.endpoint.Endpoint.TheVariants as endpoint
use Rattle.af_ops.specs.declared.op.Op.TheVariants as op
use Rattle.af_ops.specs.declared.policy_op.PolicyOp.TheVariants as policy_op
use Rattle.af_ops.specs.declared.pool_op.PoolOp.TheVariants as pool_op
use Rattle.af_ops.specs.declared.variable_op.VariableOp.TheVariants as variable_op
use Rattle.af_ops.specs.Bodies.{backfill_in, clear_in, clear_run_in, mark_in, pause_in, trigger_in}
use Rattle.af_ops.specs.Endpoints.{account_name_in, dag_id_in, instance_ids_in, is_all, row_name_in, run_ids_in}
use Rattle.af_ops.specs.Endpoints as operations
use Rattle.af_ops.specs.PolicyBodies.{role_added, role_changed, sync_asked, user_added, user_changed}
use Rattle.af_ops.specs.PolicyOps.{made, roles_asked, users_asked}
use Rattle.af_ops.specs.PolicyOps as policies
use Rattle.af_ops.specs.RowBodies.{pool_in, slots_in, value_in, variable_in}

abbrev pub endpoint_of : Call → Endpoint
endpoint_of (State it) = operations.endpoint_of it
endpoint_of (Entries asked) = endpoint.ListEntries
endpoint_of (Policy it) = policies.endpoint_of it

-- What a row of the table stands for, where the parts of the path, decoded, are these and the query and the body have these bytes;
-- none where a part is no name of its kind. Queries and bodies of operations that read none are ignored: there are no pages of tasks.
abbrev pub call_of_row : Endpoint → List (List ℕ) → List ℕ → List ℕ → Option Call
call_of_row endpoint.Version parts query body = Some (State op.Version)
call_of_row endpoint.ListDags parts query body = Some (State (op.ListDags (window_of query)))
call_of_row endpoint.GetDag parts query body = option_map (λ dag_id. State (op.GetDag dag_id)) (dag_id_in parts)
call_of_row endpoint.PauseDag parts query body = option_map (λ dag_id. State (op.PauseDag dag_id (pause_in body))) (dag_id_in parts)
call_of_row endpoint.ListTasks parts query body = option_map (λ dag_id. State (op.ListTasks dag_id)) (dag_id_in parts)
call_of_row endpoint.ListRuns parts query body = if is_all parts then Some (State (op.ListRuns None (window_of query))) else option_map (λ dag_id. State (op.ListRuns (Some dag_id) (window_of query))) (dag_id_in parts)
call_of_row endpoint.TriggerRun parts query body = option_map (λ dag_id. State (op.TriggerRun dag_id (trigger_in body))) (dag_id_in parts)
call_of_row endpoint.GetRun parts query body = option_map (λ ids. State (op.GetRun ids.0 ids.1)) (run_ids_in parts)
call_of_row endpoint.MarkRun parts query body = option_map (λ ids. State (op.MarkRun ids.0 ids.1 (mark_in body))) (run_ids_in parts)
call_of_row endpoint.DeleteRun parts query body = option_map (λ ids. State (op.DeleteRun ids.0 ids.1)) (run_ids_in parts)
call_of_row endpoint.ClearRun parts query body = option_map (λ ids. State (op.ClearRun ids.0 ids.1 (clear_run_in body))) (run_ids_in parts)
call_of_row endpoint.ListInstances parts query body = option_map (λ ids. State (op.ListInstances ids.0 ids.1 (window_of query))) (run_ids_in parts)
call_of_row endpoint.GetInstance parts query body = option_map (λ ids. State (op.GetInstance ids.0.0 ids.0.1 ids.1)) (instance_ids_in parts)
call_of_row endpoint.ClearInstances parts query body = option_map (λ dag_id. State (op.ClearInstances dag_id (clear_in body))) (dag_id_in parts)
call_of_row endpoint.ListPools parts query body = Some (State (op.Pool (pool_op.List (window_of query))))
call_of_row endpoint.AddPool parts query body = Some (State (op.Pool (pool_op.Add (pool_in body))))
call_of_row endpoint.GetPool parts query body = option_map (λ name. State (op.Pool (pool_op.Get name))) (row_name_in parts)
call_of_row endpoint.ChangePool parts query body = option_map (λ name. State (op.Pool (pool_op.Change name (slots_in body)))) (row_name_in parts)
call_of_row endpoint.DeletePool parts query body = option_map (λ name. State (op.Pool (pool_op.Delete name))) (row_name_in parts)
call_of_row endpoint.ListVariables parts query body = Some (State (op.Variable (variable_op.List (window_of query))))
call_of_row endpoint.AddVariable parts query body = Some (State (op.Variable (variable_op.Add (variable_in body))))
call_of_row endpoint.GetVariable parts query body = option_map (λ key. State (op.Variable (variable_op.Get key))) (row_name_in parts)
call_of_row endpoint.ChangeVariable parts query body = option_map (λ key. State (op.Variable (variable_op.Change key (value_in body)))) (row_name_in parts)
call_of_row endpoint.DeleteVariable parts query body = option_map (λ key. State (op.Variable (variable_op.Delete key))) (row_name_in parts)
call_of_row endpoint.ListEntries parts query body = Some (Entries (window_of query))
call_of_row endpoint.ListRoles parts query body = Some (Policy (roles_asked (window_of query)))
call_of_row endpoint.AddRole parts query body = Some (Policy (role_added body))
call_of_row endpoint.GetRole parts query body = option_map (λ name. Policy (policy_op.Read (reading.Role name))) (account_name_in parts)
call_of_row endpoint.ChangeRole parts query body = option_map (λ name. Policy (role_changed name body)) (account_name_in parts)
call_of_row endpoint.DeleteRole parts query body = option_map (λ name. Policy (made (change.DropRole name))) (account_name_in parts)
call_of_row endpoint.ListUsers parts query body = Some (Policy (users_asked (window_of query)))
call_of_row endpoint.AddUser parts query body = Some (Policy (user_added body))
call_of_row endpoint.GetUser parts query body = option_map (λ name. Policy (policy_op.Read (reading.User name))) (account_name_in parts)
call_of_row endpoint.ChangeUser parts query body = option_map (λ name. Policy (user_changed name body)) (account_name_in parts)
call_of_row endpoint.DeleteUser parts query body = option_map (λ name. Policy (made (change.DropUser name))) (account_name_in parts)
call_of_row endpoint.GetMe parts query body = Some (Policy policy_op.Me)
call_of_row endpoint.SyncDag parts query body = option_map (λ dag_id. Policy (sync_asked dag_id body)) (dag_id_in parts)
call_of_row endpoint.BackfillDag parts query body = option_map (λ dag_id. State (op.BackfillDag dag_id (backfill_in body))) (dag_id_in parts)

-- the same, whose body was not read for lack of memory
abbrev pub unread : Call → Call
unread (State it) = State (operations.unread it)
unread (Entries asked) = Entries asked
unread (Policy it) = Policy (policies.unread it)

-- this was read, all of it or without its body
abbrev pub IsRead : Option Call → Option Call → Type 0
IsRead expected found = (found ≡ expected) ⊎ (found ≡ option_map unread expected)
