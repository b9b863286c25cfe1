-- What an operation reads are names exactly where the parts are.
use Rattle.std.proofs.Common.{◌≡◌, ◌&&◌, ℕ, Bool, true, false, List, refl, ap, subst, ◌∙◌, Option, Some, None}
use Rattle.std.specs.Prelude.{◌||◌, if◌then◌else◌, is_some, ok_or, option_map, option_and_then, Err, ⊤}
use Rattle.af_ops.specs.declared.call.Call.{Call}
use Rattle.af_ops.specs.declared.endpoint.Endpoint.{Endpoint}
use Rattle.af_ops.specs.declared.method.Method.{Method}
use Rattle.af_ops.specs.declared.method.Method.TheVariants.{Get, Post, Patch, Delete}
use Rattle.af_ops.specs.declared.path_template.PathTemplate.{PathTemplate}
use Rattle.af_ops.specs.declared.path_template.PathTemplate.TheVariants as template
use Rattle.af_ops.specs.Calls.{call_of_row}
use Rattle.af_ops.specs.Endpoints.{account_name_in, are_names, both, dag_id_in, is_all, row_name_in, run_id_in, task_id_in}
use Rattle.af_ops.specs.Methods.{method_of}
use Rattle.af_ops.specs.Table.{endpoint_at}
use Rattle.af_http.specs.Routes.{by_endpoint, endpoint_of, named, read}
use Rattle.af_http.specs.declared.route_fault.RouteFault.TheVariants as fault

some_map : {X Y : Type 0} (f : X → Y) (o : Option X) → is_some o ≡ is_some (option_map f o)
some_map f None = refl
some_map f (Some x) = refl

some_or_false : {X Y : Type 0} (f : X → Y) (o : Option X) → (is_some o || false) ≡ is_some (option_map f o)
some_or_false f None = refl
some_or_false f (Some x) = refl

some_both : {X Y Z : Type 0} (f : X × Y → Z) (o : Option X) (p : Option Y) → (is_some o && is_some p) ≡ is_some (option_map f (both o p))
some_both f None p = refl
some_both f (Some x) None = refl
some_both f (Some x) (Some y) = refl

some_three : {X Y Z W : Type 0} (f : (X × Y) × Z → W) (o : Option X) (p : Option Y) (q : Option Z) → (is_some o && (is_some p && is_some q)) ≡ is_some (option_map f (both (both o p) q))
some_three f None p q = refl
some_three f (Some x) None q = refl
some_three f (Some x) (Some y) None = refl
some_three f (Some x) (Some y) (Some z) = refl

some_if : {X Y : Type 0} (f : X → Y) (o : Option X) (b : Bool) (y : Y) → (is_some o || b) ≡ is_some (if b then Some y else option_map f o)
some_if f None true y = refl
some_if f None false y = refl
some_if f (Some x) true y = refl
some_if f (Some x) false y = refl

abbrev Agrees : Method → PathTemplate → List (List ℕ) → List ℕ → List ℕ → Option Endpoint → Type 0
Agrees method p parts query body None = ⊤
Agrees method p parts query body (Some endpoint) = are_names (Some method) p parts ≡ is_some (call_of_row endpoint parts query body)

agrees : (method : Method) (p : PathTemplate) (parts : List (List ℕ)) (query body : List ℕ) → Agrees method p parts query body (endpoint_at method p)
agrees Get template.Version parts query body = refl
agrees Post template.Version parts query body = tt
agrees Patch template.Version parts query body = tt
agrees Delete template.Version parts query body = tt
agrees Get template.Dags parts query body = refl
agrees Post template.Dags parts query body = tt
agrees Patch template.Dags parts query body = tt
agrees Delete template.Dags parts query body = tt
agrees Get template.Dag parts query body = some_map _ (dag_id_in parts)
agrees Post template.Dag parts query body = tt
agrees Patch template.Dag parts query body = some_map _ (dag_id_in parts)
agrees Delete template.Dag parts query body = tt
agrees Get template.Tasks parts query body = some_map _ (dag_id_in parts)
agrees Post template.Tasks parts query body = tt
agrees Patch template.Tasks parts query body = tt
agrees Delete template.Tasks parts query body = tt
agrees Get template.Runs parts query body = some_if _ (dag_id_in parts) (is_all parts) _
agrees Post template.Runs parts query body = some_or_false _ (dag_id_in parts)
agrees Patch template.Runs parts query body = tt
agrees Delete template.Runs parts query body = tt
agrees Get template.Run parts query body = some_both _ (dag_id_in parts) (run_id_in parts)
agrees Post template.Run parts query body = tt
agrees Patch template.Run parts query body = some_both _ (dag_id_in parts) (run_id_in parts)
agrees Delete template.Run parts query body = some_both _ (dag_id_in parts) (run_id_in parts)
agrees Get template.RunClear parts query body = tt
agrees Post template.RunClear parts query body = some_both _ (dag_id_in parts) (run_id_in parts)
agrees Patch template.RunClear parts query body = tt
agrees Delete template.RunClear parts query body = tt
agrees Get template.Instances parts query body = some_both _ (dag_id_in parts) (run_id_in parts)
agrees Post template.Instances parts query body = tt
agrees Patch template.Instances parts query body = tt
agrees Delete template.Instances parts query body = tt
agrees Get template.Instance parts query body = some_three _ (dag_id_in parts) (run_id_in parts) (task_id_in parts)
agrees Post template.Instance parts query body = tt
agrees Patch template.Instance parts query body = tt
agrees Delete template.Instance parts query body = tt
agrees Get template.Clear parts query body = tt
agrees Post template.Clear parts query body = some_map _ (dag_id_in parts)
agrees Patch template.Clear parts query body = tt
agrees Delete template.Clear parts query body = tt
agrees Get template.Pools parts query body = refl
agrees Post template.Pools parts query body = refl
agrees Patch template.Pools parts query body = tt
agrees Delete template.Pools parts query body = tt
agrees Get template.Pool parts query body = some_map _ (row_name_in parts)
agrees Post template.Pool parts query body = tt
agrees Patch template.Pool parts query body = some_map _ (row_name_in parts)
agrees Delete template.Pool parts query body = some_map _ (row_name_in parts)
agrees Get template.Variables parts query body = refl
agrees Post template.Variables parts query body = refl
agrees Patch template.Variables parts query body = tt
agrees Delete template.Variables parts query body = tt
agrees Get template.Variable parts query body = some_map _ (row_name_in parts)
agrees Post template.Variable parts query body = tt
agrees Patch template.Variable parts query body = some_map _ (row_name_in parts)
agrees Delete template.Variable parts query body = some_map _ (row_name_in parts)
agrees Get template.Entries parts query body = refl
agrees Post template.Entries parts query body = tt
agrees Patch template.Entries parts query body = tt
agrees Delete template.Entries parts query body = tt
agrees Get template.Roles parts query body = refl
agrees Post template.Roles parts query body = refl
agrees Patch template.Roles parts query body = tt
agrees Delete template.Roles parts query body = tt
agrees Get template.Role parts query body = some_map _ (account_name_in parts)
agrees Post template.Role parts query body = tt
agrees Patch template.Role parts query body = some_map _ (account_name_in parts)
agrees Delete template.Role parts query body = some_map _ (account_name_in parts)
agrees Get template.Users parts query body = refl
agrees Post template.Users parts query body = refl
agrees Patch template.Users parts query body = tt
agrees Delete template.Users parts query body = tt
agrees Get template.User parts query body = some_map _ (account_name_in parts)
agrees Post template.User parts query body = tt
agrees Patch template.User parts query body = some_map _ (account_name_in parts)
agrees Delete template.User parts query body = some_map _ (account_name_in parts)
agrees Get template.Me parts query body = refl
agrees Post template.Me parts query body = tt
agrees Patch template.Me parts query body = tt
agrees Delete template.Me parts query body = tt
agrees Get template.Sync parts query body = tt
agrees Post template.Sync parts query body = some_map _ (dag_id_in parts)
agrees Patch template.Sync parts query body = tt
agrees Delete template.Sync parts query body = tt
agrees Get template.Backfills parts query body = tt
agrees Post template.Backfills parts query body = some_map _ (dag_id_in parts)
agrees Patch template.Backfills parts query body = tt
agrees Delete template.Backfills parts query body = tt

reads_if_named : (o : Option Call) (b : Bool) → b ≡ is_some o → (if b then ok_or o fault.NoPath else Err fault.NoPath) ≡ ok_or o fault.NoPath
reads_if_named None true is = refl
reads_if_named None false is = refl
reads_if_named (Some x) true is = refl
reads_if_named (Some x) false is = cc

-- where the path has the method, what its operation reads is all
pub named_read : (method query body : List ℕ) (p : PathTemplate) (parts : List (List ℕ)) (endpoint : Endpoint) → endpoint_of method p ≡ Some endpoint → named method query body p parts ≡ read endpoint parts query body
named_read method query body p parts endpoint is = by (method_of method) is
  where
    by : (m : Option Method) → option_and_then (λ it. endpoint_at it p) m ≡ Some endpoint
        → (if are_names m p parts then by_endpoint p parts query body (option_and_then (λ it. endpoint_at it p) m) else Err fault.NoPath) ≡ read endpoint parts query body
    by None is = cc
    by (Some m) is =
        let P : Option Endpoint → Type 0 = λ o. Agrees m p parts query body o in
        ap (λ (o : Option Endpoint). if are_names (Some m) p parts then by_endpoint p parts query body o else Err fault.NoPath) is
        ∙ reads_if_named (call_of_row endpoint parts query body) (are_names (Some m) p parts) (subst P is (agrees m p parts query body))
