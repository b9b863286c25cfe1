-- Listings tell exactly what the user's roles let the user read.
use Rattle.std.proofs.Common.{◌≡◌, ◌∙◌, inl, inr, refl, sym, ap, subst, ℕ, List, [], ◌∷◌, true}
use Rattle.std.specs.Prelude.{Option, Some, None, Ok, ok_or, unwrap_or}
use Rattle.serde_json.specs.Written.{compact_text}
use Rattle.af_base.specs.Readings.{◌>>=◌}
use Rattle.af_role.specs.declared.action.Action.TheVariants.{Read}
use Rattle.af_role.specs.declared.need.Need.{Need}
use Rattle.af_role.specs.declared.resource.ResourceKind.TheVariants.{Dags, TaskInstances}
use Rattle.af_role.specs.Pairs.{on_dag, on_runs}
use Rattle.af_policy.specs.Grants.{first_unmet, grants, readable, reads_dag, shows_runs}
use Rattle.af_policy.specs.Rows.{PolicyRows}
use Rattle.af_listing.specs.Windows.{Cut}
use Rattle.af_runs.specs.declared.run.Run.{Run}
use Rattle.af_runs.specs.Runs.{run_of, runs_of}
use Rattle.af_sched.specs.declared.dag_row.DagRow.{DagRow}
use Rattle.af_sched.specs.State.{dag_of}
use Rattle.af_ops.specs.declared.answer.OpFault.TheVariants.{NoSuchDag, NoSuchRun}
use Rattle.af_ops.specs.declared.op.Op.TheVariants as op
use Rattle.af_ops.specs.EffectParts.{kept}
use Rattle.af_ops.specs.Effects.{dags_data, instances_data, runs_data, tasks_data}
use Rattle.af_ops.specs.Listings.{read_rows}
use Rattle.af_ops.specs.Table.{at_dag, at_runs, on_all}
use Rattle.af_ops.specs.Verdicts.{dag_ids}
use Rattle.af_audit.specs.Logs.{shown_entries}
use Rattle.af_world.specs.Laws.{ListingsOfADagAreRead, ListingsTellWhatIsRead, TellsInstances, TellsRuns, TellsTasks}
use Rattle.af_world.specs.Rules.{ListsFor, MayRead, MayReadRuns, MaySeeRuns, RolesList}
use Rattle.af_world.specs.Worlds.{World}
use Rattle.af_world.proofs.RuleLemmas.{none_lacked, reads-decides, sees-decides}
use Rattle.af_world.proofs.TextLemmas.{OnlyTells, logs_tell, op_tells}

-- ---- listings of all DAGs

abbrev dags_text : World → Cut → PolicyRows → List ℕ → List ℕ
dags_text w window policy user = compact_text (dags_data (reads_dag (grants policy user)) window w.ledger.state.dags)

abbrev runs_text : World → Cut → PolicyRows → List ℕ → List ℕ
runs_text w window policy user = compact_text (runs_data window (read_rows (shows_runs (readable policy user)) (λ (run : Run). run.dag_id) w.ledger.state.runs))

pub listings : ListingsTellWhatIsRead
listings w s token window t m shown e ok = (
  λ is.
      let told = op_tells w token (op.ListDags (Ok window)) t (λ policy user text. text ≡ dags_text w window policy user) shown ok refl (λ policy user. (dags_text w window policy user, refl, refl, refl)) s m is e in
      record {
        policy = told.policy;
        user = told.user;
        under = told.under;
        bearer = told.bearer;
        rows = read_rows (reads_dag (grants told.policy told.user)) (λ (row : DagRow). row.dag.dag_id) w.ledger.state.dags;
        kept = record { keeps = reads_dag (grants told.policy told.user); reads = reads-decides told.policy told.user; filtered = refl };
        body = told.body ∙ ap (λ (text : List ℕ). Some text) told.is;
      },
  λ is.
      let told = op_tells w token (op.ListRuns None (Ok window)) t (λ policy user text. text ≡ runs_text w window policy user) shown ok refl (λ policy user. (runs_text w window policy user, refl, refl, refl)) s m is e in
      record {
        policy = told.policy;
        user = told.user;
        under = told.under;
        bearer = told.bearer;
        rows = read_rows (shows_runs (readable told.policy told.user)) (λ (run : Run). run.dag_id) w.ledger.state.runs;
        kept = record { keeps = shows_runs (readable told.policy told.user); reads = sees-decides told.policy told.user; filtered = refl };
        body = told.body ∙ ap (λ (text : List ℕ). Some text) told.is;
      },
  λ is.
      let told = logs_tell w token window shown ok s t m is e in
      record {
        policy = told.policy;
        user = told.user;
        under = told.under;
        bearer = told.bearer;
        rows = shown_entries (reads_dag (grants told.policy told.user)) w.ledger.audit.entries;
        kept = record { keeps = reads_dag (grants told.policy told.user); reads = reads-decides told.policy told.user; filtered = refl };
        body = told.body ∙ ap (λ (text : List ℕ). Some text) told.is;
      },
)

-- ---- listings of one DAG

-- who meets the requirement to read a DAG has roles that let the user read it
one_read : (policy : PolicyRows) (user dag_id : List ℕ) (dags : List (List ℕ)) → ListsFor policy user (Some dag_id) dags (record { action = Read; kind = Dags; at_dag = true }) → MayRead policy user dag_id
one_read policy user dag_id dags (inl all) = inl all
one_read policy user dag_id dags (inr (inl one)) =
    let same : one.1.0 ≡ dag_id = sym (ap (λ (o : Option (List ℕ)). unwrap_or o dag_id) one.1.1) in
    inr (subst (λ (d : List ℕ). RolesList policy user (on_dag Read d)) same one.1.2)
one_read policy user dag_id dags (inr (inr other)) = absurd (let e = other.0 in cc)

-- and who meets the one to read its runs, roles that let the user read these
one_runs_read : (policy : PolicyRows) (user dag_id : List ℕ) (dags : List (List ℕ)) → ListsFor policy user (Some dag_id) dags (at_runs Read) → MayReadRuns policy user dag_id
one_runs_read policy user dag_id dags (inl all) = inl all
one_runs_read policy user dag_id dags (inr (inl other)) = absurd (let e = other.0 in cc)
one_runs_read policy user dag_id dags (inr (inr one)) =
    let same : one.1.0 ≡ dag_id = sym (ap (λ (o : Option (List ℕ)). unwrap_or o dag_id) one.1.1) in
    inr (subst (λ (d : List ℕ). RolesList policy user (on_runs Read d)) same one.1.2)

pub may_read : (policy : PolicyRows) (user dag_id : List ℕ) (dags : List (List ℕ)) (needs : List Need) → first_unmet (grants policy user) (Some dag_id) dags (record { action = Read; kind = Dags; at_dag = true } ∷ needs) ≡ None → MayRead policy user dag_id
may_read policy user dag_id dags needs lacks =
    one_read policy user dag_id dags (none_lacked policy user (Some dag_id) dags (record { action = Read; kind = Dags; at_dag = true } ∷ needs) lacks).0

pub may_see_runs : (policy : PolicyRows) (user dag_id : List ℕ) (dags : List (List ℕ)) (needs : List Need) → first_unmet (grants policy user) (Some dag_id) dags (at_dag Read ∷ at_runs Read ∷ needs) ≡ None → MaySeeRuns policy user dag_id
may_see_runs policy user dag_id dags needs lacks =
    let each = none_lacked policy user (Some dag_id) dags (at_dag Read ∷ at_runs Read ∷ needs) lacks in (
      one_read policy user dag_id dags each.0,
      one_runs_read policy user dag_id dags each.1.0,
    )

module _ (w : World) (dag_id : List ℕ) where
  tasks_told : (found : Option DagRow) → dag_of w.ledger.state.dags dag_id ≡ found → OnlyTells (TellsTasks w dag_id) (ok_or found NoSuchDag >>= (λ row. Ok (kept (tasks_data row.dag.tasks))))
  tasks_told None is = tt
  tasks_told (Some row) is = (compact_text (tasks_data row.dag.tasks), refl, refl, (row, is, refl))

  runs_told : (window : Cut) (found : Option DagRow) → OnlyTells (TellsRuns w dag_id window) (ok_or found NoSuchDag >>= (λ row. Ok (kept (runs_data window (runs_of w.ledger.state.runs dag_id)))))
  runs_told window None = tt
  runs_told window (Some row) = (compact_text (runs_data window (runs_of w.ledger.state.runs dag_id)), refl, refl, refl)

  instances_told_of : (run_id : List ℕ) (window : Cut) (found : Option DagRow) (run : Option Run) → dag_of w.ledger.state.dags dag_id ≡ found → run_of w.ledger.state.runs dag_id run_id ≡ run → OnlyTells (TellsInstances w dag_id run_id window) (ok_or found NoSuchDag >>= (λ row. ok_or run NoSuchRun >>= (λ it. Ok (kept (instances_data window row.dag.tasks it)))))
  instances_told_of run_id window None run is of = tt
  instances_told_of run_id window (Some row) None is of = tt
  instances_told_of run_id window (Some row) (Some it) is of =
      (compact_text (instances_data window row.dag.tasks it), refl, refl, (row, it, is, of, refl))

pub dag_listings : ListingsOfADagAreRead
dag_listings w s token dag_id run_id window t m shown e ok = (
  λ is.
      let told = op_tells w token (op.ListTasks dag_id) t (λ policy user. TellsTasks w dag_id) shown ok refl (λ policy user. tasks_told w dag_id (dag_of w.ledger.state.dags dag_id) refl) s m is e in
      record {
        policy = told.policy;
        user = told.user;
        text = told.text;
        under = told.under;
        bearer = told.bearer;
        reads = may_read told.policy told.user dag_id (dag_ids w.ledger.state) (on_all Read TaskInstances ∷ []) told.lacks;
        body = told.body;
        told = told.is;
      },
  λ is.
      let told = op_tells w token (op.ListRuns (Some dag_id) (Ok window)) t (λ policy user. TellsRuns w dag_id window) shown ok refl (λ policy user. runs_told w dag_id window (dag_of w.ledger.state.dags dag_id)) s m is e in
      record {
        policy = told.policy;
        user = told.user;
        text = told.text;
        under = told.under;
        bearer = told.bearer;
        reads = may_see_runs told.policy told.user dag_id (dag_ids w.ledger.state) [] told.lacks;
        body = told.body;
        told = told.is;
      },
  λ is.
      let told = op_tells w token (op.ListInstances dag_id run_id (Ok window)) t (λ policy user. TellsInstances w dag_id run_id window) shown ok refl (λ policy user. instances_told_of w dag_id run_id window (dag_of w.ledger.state.dags dag_id) (run_of w.ledger.state.runs dag_id run_id) refl refl) s m is e in
      record {
        policy = told.policy;
        user = told.user;
        text = told.text;
        under = told.under;
        bearer = told.bearer;
        reads = may_see_runs told.policy told.user dag_id (dag_ids w.ledger.state) (on_all Read TaskInstances ∷ []) told.lacks;
        body = told.body;
        told = told.is;
      },
)
