-- A row that is shown stands in the state, or in the policy, and is shown to who may read it.
use Rattle.std.proofs.Common.{◌≡◌, ◌≢◌, ◌∙◌, inl, inr, refl, sym, ap, subst, ℕ, List, [], ◌∷◌}
use Rattle.std.specs.Prelude.{⊤, Option, Some, None, Ok, ok_or, unwrap_or, if◌then◌else◌}
use Rattle.serde_json.specs.Written.{compact_text}
use Rattle.af_base.specs.Readings.{◌>>=◌}
use Rattle.af_role.specs.declared.action.Action.TheVariants.{Read}
use Rattle.af_role.specs.declared.need.Need.{Need}
use Rattle.af_role.specs.declared.resource.ResourceKind.{ResourceKind}
use Rattle.af_role.specs.declared.resource.ResourceKind.TheVariants.{DagRuns, Dags, Pools, Roles, TaskInstances, Users, Variables}
use Rattle.af_role.specs.Roles.{RoleRow}
use Rattle.af_policy.specs.declared.policy_read.PolicyRead.{PolicyRead}
use Rattle.af_policy.specs.declared.policy_read.PolicyRead.TheVariants.{Role, User}
use Rattle.af_policy.specs.Grants.{first_unmet, grants}
use Rattle.af_policy.specs.Identity.{bearer_of}
use Rattle.af_policy.specs.Reads.{me_by, me_shown, read_by, read_kind, read_unless, reading_needs, role_told, rows_told, user_told}
use Rattle.af_policy.specs.Rows.{PolicyRows, UserRow, found_user}
use Rattle.af_policy.specs.Shown.{shown_user}
use Rattle.af_policy.specs.Tables.{found_role, permissions_of}
use Rattle.af_pool.specs.Pools.{pool_of}
use Rattle.af_pool.specs.declared.pool.Pool.{Pool}
use Rattle.af_runs.specs.declared.run.Run.{Run}
use Rattle.af_runs.specs.Runs.{run_of}
use Rattle.af_sched.specs.declared.dag_row.DagRow.{DagRow}
use Rattle.af_sched.specs.State.{StateRows, dag_of}
use Rattle.af_vars.specs.Variables.{variable_of}
use Rattle.af_vars.specs.declared.variable.Variable.{Variable}
use Rattle.af_ops.specs.declared.answer.OpFault.TheVariants.{NoSuchDag, NoSuchPool, NoSuchRun, NoSuchTask, NoSuchVariable}
use Rattle.af_ops.specs.declared.op.Op.TheVariants as op
use Rattle.af_ops.specs.declared.policy_op.PolicyOp.TheVariants as asks
use Rattle.af_ops.specs.declared.pool_op.PoolOp.TheVariants as pool
use Rattle.af_ops.specs.declared.shown_answer.Shown.{Shown}
use Rattle.af_ops.specs.declared.status.Status.TheVariants.{Forbidden, Unauthorized}
use Rattle.af_ops.specs.declared.status.Status.TheVariants as status
use Rattle.af_ops.specs.declared.variable_op.VariableOp.TheVariants as variable
use Rattle.af_ops.specs.EffectParts.{kept}
use Rattle.af_ops.specs.Effects.{instance_of}
use Rattle.af_ops.specs.Fields.{object_of}
use Rattle.af_ops.specs.PolicyServed.{reply_at, told_of}
use Rattle.af_ops.specs.PolicyTexts.{me_fields, role_data, user_data}
use Rattle.af_ops.specs.PolicyVerdicts.{PolicyVerdict, me_verdict, policy_verdict, read_verdict}
use Rattle.af_ops.specs.PoolEffects.{told}
use Rattle.af_ops.specs.Replies.{dag_data, instance_data, run_data, variable_data}
use Rattle.af_ops.specs.Rows.{InstanceTold}
use Rattle.af_ops.specs.Table.{at_dag, at_runs, on_all}
use Rattle.af_ops.specs.Verdicts.{dag_ids}
use Rattle.af_world.specs.Moving.{Move, stays}
use Rattle.af_world.specs.OneRow.{IsOfDag, IsOfInstance, IsOfMe, IsOfPool, IsOfRole, IsOfRun, IsOfUser, IsOfVariable, PolicyRowsShownStand, ReadsAll, RowsShownStand, ShownTo}
use Rattle.af_world.specs.Publishing.{made}
use Rattle.af_world.specs.Rules.{ListsFor}
use Rattle.af_world.specs.Worlds.{World, has_session, last_version}
use Rattle.af_world.proofs.ListingLemmas.{may_read, may_see_runs}
use Rattle.af_world.proofs.PublishLemmas.{is_latest}
use Rattle.af_world.proofs.RuleLemmas.{none_lacked}
use Rattle.af_world.proofs.TextLemmas.{OnlyTells, op_tells}
use Rattle.af_world.proofs.WorldLemmas.{either}

-- ---- who may read

-- a requirement of another kind than DAGs and their runs is met by a permission on that kind alone
reads_kind : (policy : PolicyRows) (user : List ℕ) (dag : Option (List ℕ)) (dags : List (List ℕ)) (kind : ResourceKind) → (kind ≢ Dags) × (kind ≢ DagRuns) → ListsFor policy user dag dags (on_all Read kind) → ReadsAll kind policy user
reads_kind policy user dag dags kind other (inl all) = all
reads_kind policy user dag dags kind other (inr (inl at)) = absurd (other.0 at.0)
reads_kind policy user dag dags kind other (inr (inr at)) = absurd (other.1 at.0)

module _ (policy : PolicyRows) (user : List ℕ) (dag : Option (List ℕ)) (dags : List (List ℕ)) where
  pub reads_one : (kind : ResourceKind) → (kind ≢ Dags) × (kind ≢ DagRuns) → first_unmet (grants policy user) dag dags (on_all Read kind ∷ []) ≡ None → ReadsAll kind policy user
  reads_one kind other lacks =
      reads_kind policy user dag dags kind other (none_lacked policy user dag dags (on_all Read kind ∷ []) lacks).0

  -- the third requirement
  reads_third : (need other_need : Need) (kind : ResourceKind) → (kind ≢ Dags) × (kind ≢ DagRuns) → first_unmet (grants policy user) dag dags (need ∷ other_need ∷ on_all Read kind ∷ []) ≡ None → ReadsAll kind policy user
  reads_third need other_need kind other lacks =
      reads_kind policy user dag dags kind other (none_lacked policy user dag dags (need ∷ other_need ∷ on_all Read kind ∷ []) lacks).1.1.0

-- ---- rows of the state

module _ (state : StateRows) where
  dag_told : (dag_id : List ℕ) (found : Option DagRow) → dag_of state.dags dag_id ≡ found → OnlyTells (IsOfDag state dag_id) (ok_or found NoSuchDag >>= (λ row. Ok (kept (dag_data row))))
  dag_told dag_id None is = tt
  dag_told dag_id (Some row) is = (compact_text (dag_data row), refl, refl, (row, is, refl))

  run_told : (dag_id run_id : List ℕ) (found : Option DagRow) (run : Option Run) → run_of state.runs dag_id run_id ≡ run → OnlyTells (IsOfRun state dag_id run_id) (ok_or found NoSuchDag >>= (λ row. ok_or run NoSuchRun >>= (λ it. Ok (kept (run_data it)))))
  run_told dag_id run_id None run is = tt
  run_told dag_id run_id (Some row) None is = tt
  run_told dag_id run_id (Some row) (Some it) is = (compact_text (run_data it), refl, refl, (it, is, refl))

  module _ (dag_id run_id task_id : List ℕ) where
    of_task : (row : DagRow) (run : Run) (found : Option InstanceTold) → dag_of state.dags dag_id ≡ Some row → run_of state.runs dag_id run_id ≡ Some run → instance_of row.dag.tasks run task_id ≡ found → OnlyTells (IsOfInstance state dag_id run_id task_id) (ok_or found NoSuchTask >>= (λ it. Ok (kept (instance_data it))))
    of_task row run None is of at = tt
    of_task row run (Some it) is of at = (compact_text (instance_data it), refl, refl, (row, run, it, is, of, at, refl))

    instance_told : (found : Option DagRow) (run : Option Run) → dag_of state.dags dag_id ≡ found → run_of state.runs dag_id run_id ≡ run → OnlyTells (IsOfInstance state dag_id run_id task_id) (ok_or found NoSuchDag >>= (λ row. ok_or run NoSuchRun >>= (λ it. ok_or (instance_of row.dag.tasks it task_id) NoSuchTask >>= (λ at. Ok (kept (instance_data at))))))
    instance_told None run is of = tt
    instance_told (Some row) None is of = tt
    instance_told (Some row) (Some it) is of = of_task row it (instance_of row.dag.tasks it task_id) is of refl

  pool_told : (name : List ℕ) (found : Option Pool) → pool_of state.pools name ≡ found → OnlyTells (IsOfPool state name) (ok_or found NoSuchPool >>= (λ row. Ok (kept (told state row))))
  pool_told name None is = tt
  pool_told name (Some row) is = (compact_text (told state row), refl, refl, (row, is, refl))

  variable_told : (key : List ℕ) (found : Option Variable) → variable_of state.variables key ≡ found → OnlyTells (IsOfVariable state key) (ok_or found NoSuchVariable >>= (λ row. Ok (kept (variable_data row))))
  variable_told key None is = tt
  variable_told key (Some row) is = (compact_text (variable_data row), refl, refl, (row, is, refl))

pub rows_stand : RowsShownStand
rows_stand w s token t m shown e ok =
    let state : StateRows = w.ledger.state in (
      λ dag_id is.
          let it = op_tells w token (op.GetDag dag_id) t (λ policy user. IsOfDag state dag_id) shown ok refl (λ policy user. dag_told state dag_id (dag_of state.dags dag_id) refl) s m is e in
          record {
            policy = it.policy;
            user = it.user;
            text = it.text;
            under = it.under;
            bearer = it.bearer;
            may = may_read it.policy it.user dag_id (dag_ids state) [] it.lacks;
            body = it.body;
            is = it.is;
          },
      λ dag_id run_id is.
          let it = op_tells w token (op.GetRun dag_id run_id) t (λ policy user. IsOfRun state dag_id run_id) shown ok refl (λ policy user. run_told state dag_id run_id (dag_of state.dags dag_id) (run_of state.runs dag_id run_id) refl) s m is e in
          record {
            policy = it.policy;
            user = it.user;
            text = it.text;
            under = it.under;
            bearer = it.bearer;
            may = may_see_runs it.policy it.user dag_id (dag_ids state) [] it.lacks;
            body = it.body;
            is = it.is;
          },
      λ dag_id run_id task_id is.
          let it = op_tells w token (op.GetInstance dag_id run_id task_id) t (λ policy user. IsOfInstance state dag_id run_id task_id) shown ok refl (λ policy user. instance_told state dag_id run_id task_id (dag_of state.dags dag_id) (run_of state.runs dag_id run_id) refl refl) s m is e in
          record {
            policy = it.policy;
            user = it.user;
            text = it.text;
            under = it.under;
            bearer = it.bearer;
            may = (
              may_see_runs it.policy it.user dag_id (dag_ids state) (on_all Read TaskInstances ∷ []) it.lacks,
              reads_third it.policy it.user (Some dag_id) (dag_ids state) (at_dag Read) (at_runs Read) TaskInstances (λ c. cc, λ c. cc) it.lacks,
            );
            body = it.body;
            is = it.is;
          },
      λ name is.
          let it = op_tells w token (op.Pool (pool.Get name)) t (λ policy user. IsOfPool state name) shown ok refl (λ policy user. pool_told state name (pool_of state.pools name) refl) s m is e in
          record {
            policy = it.policy;
            user = it.user;
            text = it.text;
            under = it.under;
            bearer = it.bearer;
            may = reads_one it.policy it.user None (dag_ids state) Pools (λ c. cc, λ c. cc) it.lacks;
            body = it.body;
            is = it.is;
          },
      λ key is.
          let it = op_tells w token (op.Variable (variable.Get key)) t (λ policy user. IsOfVariable state key) shown ok refl (λ policy user. variable_told state key (variable_of state.variables key) refl) s m is e in
          record {
            policy = it.policy;
            user = it.user;
            text = it.text;
            under = it.under;
            bearer = it.bearer;
            may = reads_one it.policy it.user None (dag_ids state) Variables (λ c. cc, λ c. cc) it.lacks;
            body = it.body;
            is = it.is;
          },
    )

-- ---- rows of the policy

module _ (w : World) (token : Option (List ℕ)) (shown : Shown) (ok : shown.status ≡ status.Ok) where
  -- what is told with another status is not this
  is_ok : (answer : Option Shown) → answer ≡ Some shown → (unwrap_or answer shown).status ≡ status.Ok
  is_ok answer e = ap (λ (o : Option Shown). (unwrap_or o shown).status) e ∙ ok

  module _ (May : PolicyRows → List ℕ → Type 0) (IsText : PolicyRows → List ℕ → List ℕ → Type 0) where
    pub text_shown : (user text : List ℕ) → bearer_of w.versions.latest token ≡ Some user → May w.versions.latest user → IsText w.versions.latest user text → Some (reply_at (last_version w) (Some text)) ≡ Some shown → ShownTo w token shown May IsText
    text_shown user text bearer may is e =
        let same : reply_at (last_version w) (Some text) ≡ shown = ap (λ (o : Option Shown). unwrap_or o (reply_at (last_version w) (Some text))) e in
        record {
          policy = w.versions.latest;
          user = user;
          text = text;
          under = is_latest w shown (sym (ap (λ (s : Shown). s.version) same));
          bearer = bearer;
          may = may;
          body = sym (ap (λ (s : Shown). s.body) same);
          is = is;
        }

  abbrev ShowsMe : Type 0
  ShowsMe = ShownTo w token shown (λ policy user. ⊤) (IsOfMe (last_version w))

  me_row : (user : List ℕ) → bearer_of w.versions.latest token ≡ Some user → (row : Option UserRow) → found_user w.versions.latest.users user ≡ row → told_of (last_version w) (me_verdict (last_version w) (me_shown w.versions.latest row)) ≡ Some shown → ShowsMe
  me_row user bearer None found e =
      (let f : Unauthorized ≡ status.Ok = is_ok (told_of (last_version w) (me_verdict (last_version w) (me_shown w.versions.latest None))) e in absurd (cc))
  me_row user bearer (Some row) found e =
      text_shown (λ policy user. ⊤) (IsOfMe (last_version w)) user
      (compact_text (object_of (me_fields (record { me = record { user = shown_user row; permissions = permissions_of w.versions.latest.roles row.roles }; version = last_version w }))))
      bearer tt (row, found, refl) e

  me_bearer : (bearer : Option (List ℕ)) → bearer_of w.versions.latest token ≡ bearer → told_of (last_version w) (me_verdict (last_version w) (me_by w.versions.latest bearer)) ≡ Some shown → ShowsMe
  me_bearer None is e =
      (let f : Unauthorized ≡ status.Ok = is_ok (told_of (last_version w) (me_verdict (last_version w) (me_by w.versions.latest None))) e in absurd (cc))
  me_bearer (Some user) is e = me_row user is (found_user w.versions.latest.users user) refl e

  -- what a reading of the policy shows
  module _ (asked : PolicyRead) (May : PolicyRows → List ℕ → Type 0) (IsText : PolicyRows → List ℕ → List ℕ → Type 0) where
    abbrev Shows : Type 0
    Shows = ShownTo w token shown May IsText

    read_lacked : (user : List ℕ) → bearer_of w.versions.latest token ≡ Some user
        → (first_unmet (grants w.versions.latest user) None [] (reading_needs (read_kind asked)) ≡ None → told_of (last_version w) (read_verdict asked (rows_told w.versions.latest asked)) ≡ Some shown → Shows)
        → (lacked : Option Need) → first_unmet (grants w.versions.latest user) None [] (reading_needs (read_kind asked)) ≡ lacked → told_of (last_version w) (read_verdict asked (read_unless w.versions.latest asked lacked)) ≡ Some shown → Shows
    read_lacked user bearer shows (Some need) lacks e =
        (let f : Forbidden ≡ status.Ok = is_ok (told_of (last_version w) (read_verdict asked (read_unless w.versions.latest asked (Some need)))) e in absurd (cc))
    read_lacked user bearer shows None lacks e = shows lacks e

    pub read_bearer : ((user : List ℕ) → bearer_of w.versions.latest token ≡ Some user → first_unmet (grants w.versions.latest user) None [] (reading_needs (read_kind asked)) ≡ None → told_of (last_version w) (read_verdict asked (rows_told w.versions.latest asked)) ≡ Some shown → Shows)
        → (bearer : Option (List ℕ)) → bearer_of w.versions.latest token ≡ bearer → told_of (last_version w) (read_verdict asked (read_by w.versions.latest asked bearer)) ≡ Some shown → Shows
    read_bearer shows None is e =
        (let f : Unauthorized ≡ status.Ok = is_ok (told_of (last_version w) (read_verdict asked (read_by w.versions.latest asked None))) e in absurd (cc))
    read_bearer shows (Some user) is e =
        read_lacked user is (shows user is) (first_unmet (grants w.versions.latest user) None [] (reading_needs (read_kind asked))) refl e

  role_row : (name user : List ℕ) → bearer_of w.versions.latest token ≡ Some user → ReadsAll Roles w.versions.latest user → (row : Option RoleRow) → found_role w.versions.latest.roles name ≡ row → told_of (last_version w) (read_verdict (Role name) (role_told row)) ≡ Some shown → ShownTo w token shown (ReadsAll Roles) (IsOfRole name)
  role_row name user bearer may None found e =
      (let f : status.NotFound ≡ status.Ok = is_ok (told_of (last_version w) (read_verdict (Role name) (role_told None))) e in absurd (cc))
  role_row name user bearer may (Some row) found e =
      text_shown (ReadsAll Roles) (IsOfRole name) user (compact_text (role_data row)) bearer may (row, found, refl) e

  user_row : (name user : List ℕ) → bearer_of w.versions.latest token ≡ Some user → ReadsAll Users w.versions.latest user → (row : Option UserRow) → found_user w.versions.latest.users name ≡ row → told_of (last_version w) (read_verdict (User name) (user_told row)) ≡ Some shown → ShownTo w token shown (ReadsAll Users) (IsOfUser name)
  user_row name user bearer may None found e =
      (let f : status.NotFound ≡ status.Ok = is_ok (told_of (last_version w) (read_verdict (User name) (user_told None))) e in absurd (cc))
  user_row name user bearer may (Some row) found e =
      text_shown (ReadsAll Users) (IsOfUser name) user (compact_text (user_data (shown_user row))) bearer may (row, found, refl) e

-- a reading of the policy that is answered was decided under the latest version
pub met_says : (w : World) (s : ℕ) (m : Move) (shown : Shown) (it : PolicyVerdict) (P : Type 0) → m ≡ (if has_session w s then made w s it else stays w) → m.answer ≡ Some shown → (told_of (last_version w) it ≡ Some shown → P) → P
met_says w s m shown it P is e says =
    subst (λ (move : Move). move.answer ≡ Some shown → P) (sym is)
    (either (λ (move : Move). move.answer ≡ Some shown → P) (has_session w s) (made w s it) (stays w) (λ _. says) (λ _ none. absurd (cc))) e

pub policy_rows_stand : PolicyRowsShownStand
policy_rows_stand w s token m shown e ok = (
  λ name is.
      met_says w s m shown (policy_verdict w.versions token (asks.Read (Role name))) (ShownTo w token shown (ReadsAll Roles) (IsOfRole name)) is e
      (read_bearer w token shown ok (Role name) (ReadsAll Roles) (IsOfRole name)
      (λ user bearer lacks. role_row w token shown ok name user bearer (reads_one w.versions.latest user None [] Roles (λ c. cc, λ c. cc) lacks) (found_role w.versions.latest.roles name) refl)
      (bearer_of w.versions.latest token) refl),
  λ name is.
      met_says w s m shown (policy_verdict w.versions token (asks.Read (User name))) (ShownTo w token shown (ReadsAll Users) (IsOfUser name)) is e
      (read_bearer w token shown ok (User name) (ReadsAll Users) (IsOfUser name)
      (λ user bearer lacks. user_row w token shown ok name user bearer (reads_one w.versions.latest user None [] Users (λ c. cc, λ c. cc) lacks) (found_user w.versions.latest.users name) refl)
      (bearer_of w.versions.latest token) refl),
  λ is.
      met_says w s m shown (policy_verdict w.versions token asks.Me) (ShownTo w token shown (λ policy user. ⊤) (IsOfMe (last_version w))) is e
      (me_bearer w token shown ok (bearer_of w.versions.latest token) refl),
)
