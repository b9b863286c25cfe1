-- What is read of a row of the table is of that row, and it names the DAG of the path.
use Rattle.std.proofs.Common.{◌≡◌, ℕ, Bool, true, false, List, [], ◌∷◌, refl, sym, ap, subst, Ok, Err, Result}
use Rattle.std.specs.Cmp.Lexicographic.{bytes_decides}
use Rattle.std.specs.Prelude.{Option, Some, None, option_map, if◌then◌else◌}
use Rattle.af_base.specs.Readings.{◌>>=◌, member_of}
use Rattle.af_listing.specs.Windows.{Cut, window_of}
use Rattle.af_policy.specs.Changes.{kind_of}
use Rattle.af_policy.specs.Inputs.{member_text}
use Rattle.af_policy.specs.Reads.{read_kind}
use Rattle.af_policy.specs.declared.bad_input.Member.TheVariants.{AccessControl}
use Rattle.af_policy.specs.declared.bad_input.Parameter.{Parameter}
use Rattle.af_policy.specs.declared.change.Change.{Change}
use Rattle.af_policy.specs.declared.change.Change.TheVariants as change
use Rattle.af_policy.specs.declared.change.DagAccess.{DagAccess}
use Rattle.af_policy.specs.declared.change_kind.ChangeKind.{ChangeKind}
use Rattle.af_policy.specs.declared.change_kind.ChangeKind.TheVariants as kind
use Rattle.af_policy.specs.declared.policy_read.PolicyRead.{PolicyRead}
use Rattle.af_policy.specs.declared.policy_read.PolicyRead.TheVariants as reading
use Rattle.af_policy.specs.declared.read_kind.ReadKind.{ReadKind}
use Rattle.af_policy.specs.declared.read_kind.ReadKind.TheVariants as shown
use Rattle.af_policy.specs.declared.span.Span.{Span}
use Rattle.af_ops.specs.declared.call.Call.{Call}
use Rattle.af_ops.specs.declared.call.Call.TheVariants.{State, Entries, Policy}
use Rattle.af_ops.specs.declared.endpoint.Endpoint.{Endpoint}
use Rattle.af_ops.specs.declared.endpoint.Endpoint.TheVariants as endpoint
use Rattle.af_ops.specs.declared.input_fault.InputFault.{InputFault}
use Rattle.af_ops.specs.declared.input_fault.InputFault.TheVariants as fault
use Rattle.af_ops.specs.declared.op.Op.TheVariants as op
use Rattle.af_ops.specs.declared.policy_op.PolicyOp.TheVariants as policy_op
use Rattle.af_ops.specs.declared.pool_op.PoolOp.TheVariants as pool_op
use Rattle.af_ops.specs.declared.variable_op.VariableOp.TheVariants as variable_op
use Rattle.af_ops.specs.Bodies.{backfill_in, clear_in, clear_run_in, mark_in, pause_in, trigger_in}
use Rattle.af_ops.specs.Calls.{endpoint_of}
use Rattle.af_ops.specs.Endpoints.{account_name_in, both, dag_id_in, is_all, row_name_in, run_id_in, task_id_in}
use Rattle.af_ops.specs.Laws.{IsAt, OperationsAreOfTheirRow}
use Rattle.af_ops.specs.PolicyBodies.{access_or, asked, body_in, dag_access_in, patch_in, role_added, role_changed, role_in, role_set_in, sync_asked, user_added, user_changed, user_in}
use Rattle.af_ops.specs.PolicyOps.{change_endpoint, made, page_asked, read_endpoint, roles_asked, span_of, synced_dag, users_asked}
use Rattle.af_ops.specs.RowBodies.{pool_in, slots_in, value_in, variable_in}

-- it is of this row and names this DAG
abbrev Fits : Endpoint → Option (List ℕ) → Call → Type 0
Fits it dag call = (endpoint_of call ≡ it) × IsAt call dag

some_same : {X : Type 0} {x y : X} → Some x ≡ Some y → x ≡ y
some_same is = cc

none_some : {X : Type 0} {x : X} → None ≡ Some x → ⊥
none_some same = cc

-- what stands for a row is what is read of it
single : (it : Endpoint) (dag : Option (List ℕ)) (made asked : Call) → Fits it dag made → Some made ≡ Some asked → Fits it dag asked
single it dag made asked fits is = subst (λ (call : Call). Fits it dag call) (some_same is) fits

-- the same where a name of the path is wanted, which is that of a DAG, or another
mapped : (make : List ℕ → Call) (it : Endpoint) (found : Option (List ℕ)) (asked : Call) → ((id : List ℕ) → Fits it (Some id) (make id)) → option_map make found ≡ Some asked → Fits it found asked
mapped make it None asked fits is = absurd (none_some is)
mapped make it (Some id) asked fits is = single it (Some id) (make id) asked (fits id) is

mapped_none : (make : List ℕ → Call) (it : Endpoint) (found : Option (List ℕ)) (asked : Call) → ((name : List ℕ) → Fits it None (make name)) → option_map make found ≡ Some asked → Fits it None asked
mapped_none make it None asked fits is = absurd (none_some is)
mapped_none make it (Some name) asked fits is = single it None (make name) asked (fits name) is

-- the same of what names a run
mapped_both : (make : List ℕ → List ℕ → Call) (it : Endpoint) (dag run : Option (List ℕ)) (asked : Call) → ((id run_id : List ℕ) → Fits it (Some id) (make id run_id)) → option_map (λ ids. make ids.0 ids.1) (both dag run) ≡ Some asked → Fits it dag asked
mapped_both make it (Some id) (Some run_id) asked fits is = single it (Some id) (make id run_id) asked (fits id run_id) is
mapped_both make it (Some id) None asked fits is = absurd (none_some is)
mapped_both make it None run asked fits is = absurd (none_some is)

-- `~` is no id of a DAG
no_id : (parts : List (List ℕ)) → is_all parts ≡ true → None ≡ dag_id_in parts
no_id [] is = refl
no_id (part ∷ parts) is = rw ((bytes_decides part (126 ∷ [])).0 is) refl

all_or_one : (all : Bool) (parts : List (List ℕ)) (window : Result Cut Parameter) (asked : Call) → is_all parts ≡ all → (if all then Some (State (op.ListRuns None window)) else option_map (λ id. State (op.ListRuns (Some id) window)) (dag_id_in parts)) ≡ Some asked → Fits endpoint.ListRuns (dag_id_in parts) asked
all_or_one true parts window asked all is = single endpoint.ListRuns (dag_id_in parts) (State (op.ListRuns None window)) asked (refl, no_id parts all) is
all_or_one false parts window asked all is =
    mapped (λ id. State (op.ListRuns (Some id) window)) endpoint.ListRuns (dag_id_in parts) asked (λ id. (refl, refl)) is

mapped_three : (dag run task : Option (List ℕ)) (asked : Call) → option_map (λ ids. State (op.GetInstance ids.0.0 ids.0.1 ids.1)) (both (both dag run) task) ≡ Some asked → Fits endpoint.GetInstance dag asked
mapped_three (Some id) (Some run_id) (Some task_id) asked is = single endpoint.GetInstance (Some id) (State (op.GetInstance id run_id task_id)) asked (refl, refl) is
mapped_three (Some id) (Some run_id) None asked is = absurd (none_some is)
mapped_three (Some id) None task asked is = absurd (none_some is)
mapped_three None run task asked is = absurd (none_some is)

-- ---- what is asked of the policy

page_fits : (it : ReadKind) (make : Span → PolicyRead) (window : Result Cut Parameter) → ((span : Span) → read_kind (make span) ≡ it) → Fits (read_endpoint it) None (Policy (page_asked it make window))
page_fits it make (Ok window) of_kind = (ap read_endpoint (of_kind (span_of window)), refl)
page_fits it make (Err parameter) of_kind = (refl, refl)

change_fits : {X : Type 0} (it : ChangeKind) (make : X → Change) (read : Result X InputFault) → ((x : X) → kind_of (make x) ≡ it) → ((x : X) → synced_dag (make x) ≡ None) → Fits (change_endpoint it) None (Policy (asked it make read))
change_fits it make (Ok x) of_kind nowhere = (ap change_endpoint (of_kind x), nowhere x)
change_fits it make (Err (fault.Bad input)) of_kind nowhere = (refl, tt)
change_fits it make (Err fault.OutOfMemory) of_kind nowhere = (refl, tt)

-- what is read in two steps is of the DAG that the last step names
bound : {X Y E : Type 0} (read : Result X E) (more : X → Result Y E) (y : Y) (P : Y → Type 0) → ((x : X) → more x ≡ Ok y → P y) → (read >>= more) ≡ Ok y → P y
bound (Ok x) more y P last is = last x is
bound (Err why) more y P last is = absurd (ok_err is)
  where
    ok_err : {A B : Type 0} {a : A} {b : B} → Err b ≡ Ok a → ⊥
    ok_err same = cc

ok_same : {X E : Type 0} {x y : X} → (let a : Result X E = Ok x in let b : Result X E = Ok y in a ≡ b) → x ≡ y
ok_same is = cc

its_dag : (dag_id body : List ℕ) (access : DagAccess) → dag_access_in dag_id body ≡ Ok access → access.dag ≡ dag_id
its_dag dag_id body access is =
    bound (body_in body) (λ read. access_or (member_of (member_text AccessControl) read) >>= (λ rows. Ok (record { dag = dag_id; access = rows }))) access (λ (it : DagAccess). it.dag ≡ dag_id)
    (λ read same. bound (access_or (member_of (member_text AccessControl) read)) (λ rows. Ok (record { dag = dag_id; access = rows })) access (λ (it : DagAccess). it.dag ≡ dag_id) (λ rows last. ap (λ (it : DagAccess). it.dag) (sym (ok_same last))) same)
    is

sync_fits : (dag_id : List ℕ) (read : Result DagAccess InputFault) → ((access : DagAccess) → read ≡ Ok access → access.dag ≡ dag_id) → Fits endpoint.SyncDag (Some dag_id) (Policy (asked kind.SyncDag change.SyncDag read))
sync_fits dag_id (Ok access) its = (refl, ap Some (its access refl))
sync_fits dag_id (Err (fault.Bad input)) its = (refl, tt)
sync_fits dag_id (Err fault.OutOfMemory) its = (refl, tt)

pub of_their_row : OperationsAreOfTheirRow
of_their_row endpoint.Version parts query body asked is = single endpoint.Version None (State op.Version) asked (refl, refl) is
of_their_row endpoint.ListDags parts query body asked is = single endpoint.ListDags None (State (op.ListDags (window_of query))) asked (refl, refl) is
of_their_row endpoint.GetDag parts query body asked is = mapped (λ id. State (op.GetDag id)) endpoint.GetDag (dag_id_in parts) asked (λ id. (refl, refl)) is
of_their_row endpoint.PauseDag parts query body asked is = mapped (λ id. State (op.PauseDag id (pause_in body))) endpoint.PauseDag (dag_id_in parts) asked (λ id. (refl, refl)) is
of_their_row endpoint.ListTasks parts query body asked is = mapped (λ id. State (op.ListTasks id)) endpoint.ListTasks (dag_id_in parts) asked (λ id. (refl, refl)) is
of_their_row endpoint.ListRuns parts query body asked is = all_or_one (is_all parts) parts (window_of query) asked refl is
of_their_row endpoint.TriggerRun parts query body asked is = mapped (λ id. State (op.TriggerRun id (trigger_in body))) endpoint.TriggerRun (dag_id_in parts) asked (λ id. (refl, refl)) is
of_their_row endpoint.GetRun parts query body asked is = mapped_both (λ id run_id. State (op.GetRun id run_id)) endpoint.GetRun (dag_id_in parts) (run_id_in parts) asked (λ id run_id. (refl, refl)) is
of_their_row endpoint.MarkRun parts query body asked is = mapped_both (λ id run_id. State (op.MarkRun id run_id (mark_in body))) endpoint.MarkRun (dag_id_in parts) (run_id_in parts) asked (λ id run_id. (refl, refl)) is
of_their_row endpoint.DeleteRun parts query body asked is = mapped_both (λ id run_id. State (op.DeleteRun id run_id)) endpoint.DeleteRun (dag_id_in parts) (run_id_in parts) asked (λ id run_id. (refl, refl)) is
of_their_row endpoint.ClearRun parts query body asked is = mapped_both (λ id run_id. State (op.ClearRun id run_id (clear_run_in body))) endpoint.ClearRun (dag_id_in parts) (run_id_in parts) asked (λ id run_id. (refl, refl)) is
of_their_row endpoint.ListInstances parts query body asked is = mapped_both (λ id run_id. State (op.ListInstances id run_id (window_of query))) endpoint.ListInstances (dag_id_in parts) (run_id_in parts) asked (λ id run_id. (refl, refl)) is
of_their_row endpoint.GetInstance parts query body asked is = mapped_three (dag_id_in parts) (run_id_in parts) (task_id_in parts) asked is
of_their_row endpoint.ClearInstances parts query body asked is = mapped (λ id. State (op.ClearInstances id (clear_in body))) endpoint.ClearInstances (dag_id_in parts) asked (λ id. (refl, refl)) is
of_their_row endpoint.ListPools parts query body asked is = single endpoint.ListPools None (State (op.Pool (pool_op.List (window_of query)))) asked (refl, refl) is
of_their_row endpoint.AddPool parts query body asked is = single endpoint.AddPool None (State (op.Pool (pool_op.Add (pool_in body)))) asked (refl, refl) is
of_their_row endpoint.GetPool parts query body asked is = mapped_none (λ name. State (op.Pool (pool_op.Get name))) endpoint.GetPool (row_name_in parts) asked (λ name. (refl, refl)) is
of_their_row endpoint.ChangePool parts query body asked is = mapped_none (λ name. State (op.Pool (pool_op.Change name (slots_in body)))) endpoint.ChangePool (row_name_in parts) asked (λ name. (refl, refl)) is
of_their_row endpoint.DeletePool parts query body asked is = mapped_none (λ name. State (op.Pool (pool_op.Delete name))) endpoint.DeletePool (row_name_in parts) asked (λ name. (refl, refl)) is
of_their_row endpoint.ListVariables parts query body asked is = single endpoint.ListVariables None (State (op.Variable (variable_op.List (window_of query)))) asked (refl, refl) is
of_their_row endpoint.AddVariable parts query body asked is = single endpoint.AddVariable None (State (op.Variable (variable_op.Add (variable_in body)))) asked (refl, refl) is
of_their_row endpoint.GetVariable parts query body asked is = mapped_none (λ name. State (op.Variable (variable_op.Get name))) endpoint.GetVariable (row_name_in parts) asked (λ name. (refl, refl)) is
of_their_row endpoint.ChangeVariable parts query body asked is = mapped_none (λ name. State (op.Variable (variable_op.Change name (value_in body)))) endpoint.ChangeVariable (row_name_in parts) asked (λ name. (refl, refl)) is
of_their_row endpoint.DeleteVariable parts query body asked is = mapped_none (λ name. State (op.Variable (variable_op.Delete name))) endpoint.DeleteVariable (row_name_in parts) asked (λ name. (refl, refl)) is
of_their_row endpoint.ListEntries parts query body asked is = single endpoint.ListEntries None (Entries (window_of query)) asked (refl, refl) is
of_their_row endpoint.ListRoles parts query body asked is = single endpoint.ListRoles None (Policy (roles_asked (window_of query))) asked (page_fits shown.Roles reading.Roles (window_of query) (λ span. refl)) is
of_their_row endpoint.AddRole parts query body asked is = single endpoint.AddRole None (Policy (role_added body)) asked (change_fits kind.AddRole change.AddRole (role_in body) (λ input. refl) (λ input. refl)) is
of_their_row endpoint.GetRole parts query body asked is = mapped_none (λ name. Policy (policy_op.Read (reading.Role name))) endpoint.GetRole (account_name_in parts) asked (λ name. (refl, refl)) is
of_their_row endpoint.ChangeRole parts query body asked is = mapped_none (λ name. Policy (role_changed name body)) endpoint.ChangeRole (account_name_in parts) asked (λ name. change_fits kind.SetRole change.SetRole (role_set_in name body) (λ input. refl) (λ input. refl)) is
of_their_row endpoint.DeleteRole parts query body asked is = mapped_none (λ name. Policy (made (change.DropRole name))) endpoint.DeleteRole (account_name_in parts) asked (λ name. (refl, refl)) is
of_their_row endpoint.ListUsers parts query body asked is = single endpoint.ListUsers None (Policy (users_asked (window_of query))) asked (page_fits shown.Users reading.Users (window_of query) (λ span. refl)) is
of_their_row endpoint.AddUser parts query body asked is = single endpoint.AddUser None (Policy (user_added body)) asked (change_fits kind.AddUser change.AddUser (user_in body) (λ user. refl) (λ user. refl)) is
of_their_row endpoint.GetUser parts query body asked is = mapped_none (λ name. Policy (policy_op.Read (reading.User name))) endpoint.GetUser (account_name_in parts) asked (λ name. (refl, refl)) is
of_their_row endpoint.ChangeUser parts query body asked is = mapped_none (λ name. Policy (user_changed name body)) endpoint.ChangeUser (account_name_in parts) asked (λ name. change_fits kind.SetUser change.SetUser (patch_in name body) (λ patch. refl) (λ patch. refl)) is
of_their_row endpoint.DeleteUser parts query body asked is = mapped_none (λ name. Policy (made (change.DropUser name))) endpoint.DeleteUser (account_name_in parts) asked (λ name. (refl, refl)) is
of_their_row endpoint.GetMe parts query body asked is = single endpoint.GetMe None (Policy policy_op.Me) asked (refl, refl) is
of_their_row endpoint.SyncDag parts query body asked is = mapped (λ id. Policy (sync_asked id body)) endpoint.SyncDag (dag_id_in parts) asked (λ id. sync_fits id (dag_access_in id body) (λ access is. its_dag id body access is)) is
of_their_row endpoint.BackfillDag parts query body asked is = mapped (λ id. State (op.BackfillDag id (backfill_in body))) endpoint.BackfillDag (dag_id_in parts) asked (λ id. (refl, refl)) is
