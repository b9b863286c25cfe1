-- The verdict on each of the seven operations, from the reader's sight alone.
use Rattle.std.proofs.Common.{◌≡◌, ◌∙◌, refl, sym, ap, ℕ, Bool, true, false, cond, List, [], ◌∷◌}
use Rattle.std.specs.Prelude.{◌&&◌, ◌||◌, not, Option, Some, None, Result, Ok, Err, option_map}
use Rattle.std.specs.List.{list_any}
use Rattle.std.proofs.lemmas.Bool.{and_parts}
use Rattle.af_policy.specs.Grants.{first_unmet, grants, meets_by, readable_by, reads_dag, reads_runs_of, shows_runs}
use Rattle.af_policy.specs.Identity.{bearer_of}
use Rattle.af_policy.specs.Rows.{PolicyRows}
use Rattle.af_role.specs.Pairs.{PairRow, on_dag, on_kind, on_runs}
use Rattle.af_role.specs.declared.dag_part.DagPart.TheVariants.{Runs}
use Rattle.af_role.specs.declared.action.Action.TheVariants.{Read}
use Rattle.af_role.specs.declared.need.Need.{Need}
use Rattle.af_role.specs.declared.resource.ResourceKind.TheVariants.{DagRuns, Dags, TaskInstances}
use Rattle.af_sched.specs.State.{StateRows}
use Rattle.af_sched.specs.declared.dag_row.DagRow.{DagRow}
use Rattle.af_ops.specs.declared.answer.CallFault.TheVariants as why
use Rattle.af_ops.specs.declared.answer.OpFault.{OpFault}
use Rattle.af_ops.specs.declared.answer.Under.{Under}
use Rattle.af_ops.specs.declared.op.Op.{Op}
use Rattle.af_ops.specs.declared.op.Op.TheVariants as op
use Rattle.af_ops.specs.EffectParts.{Effect}
use Rattle.af_ops.specs.Effects.{effect_of}
use Rattle.af_ops.specs.Endpoints.{dag_of, endpoint_of}
use Rattle.af_ops.specs.Faults.{problem_of}
use Rattle.af_ops.specs.Required.{needs_for}
use Rattle.af_ops.specs.Rows.{Problem}
use Rattle.af_ops.specs.Served.{answer_of, problem_told}
use Rattle.af_ops.specs.Standings.{StandingRows}
use Rattle.af_ops.specs.Table.{at_dag, at_runs, at_some_dag, is_open, on_all, route_of}
use Rattle.af_ops.specs.Verdicts.{Changes, Lacks, Open, Refuses, Stranger, Tells, Verdict, dag_ids, done, granted_verdict, judged, permitted, verdict}
use Rattle.af_ops.specs.declared.method.Method.TheVariants.{Get}
use Rattle.af_ops.proofs.ReadingLemmas.{readings_keep}
use Rattle.af_blind.specs.Blindness.{Alike, AlikeFor, Blindness, reads_dags, status_and_body}
use Rattle.af_blind.proofs.KeptLemmas.{any_kept}
use Rattle.af_blind.proofs.SightLemmas.{all_listed, got, instance_got, instances_listed, listed, one_sight, run_got, runs_listed, sight, tasks_listed}

-- ---- an operation that leaves the state has no number of entries in its verdict

done_alike : (limit another : ℕ) (one other : Under) (result : Result Effect OpFault) → ((effect : Effect) → result ≡ Ok effect → effect.next ≡ None) → done limit one result ≡ done another other result
done_alike limit another one other (Err why) keeps = refl
done_alike limit another one other (Ok effect) keeps = rw (keeps effect refl) refl

-- ---- requirements

first_met : (met : Bool) (need : Need) (rest : Option Need) → cond (not met) (Some need) rest ≡ None → met ≡ true
first_met true need rest none = refl
first_met false need rest none = absurd (cc)

or_right : (a b : Bool) → b ≡ true → (a || b) ≡ true
or_right true b is = refl
or_right false b is = is

rest_met : (met : Bool) (need : Need) (rest : Option Need) → cond (not met) (Some need) rest ≡ None → rest ≡ None
rest_met true need rest none = none
rest_met false need rest none = absurd (cc)

-- the runs of which DAGs permissions let one see
abbrev shows : (PairRow → Bool) → List ℕ → Bool
shows granted = shows_runs (readable_by granted)

-- who lacks neither requirement at a DAG reads the DAG, and sees its runs
both_met : (granted : PairRow → Bool) (dag_id : List ℕ) (rest : Option Need) → cond (not (reads_dag granted dag_id)) (Some (at_dag Read)) (cond (not (reads_runs_of granted dag_id)) (Some (at_runs Read)) rest) ≡ None
    → (reads_dag granted dag_id ≡ true) × (shows granted dag_id ≡ true)
both_met granted dag_id rest none =
    let here = first_met (reads_dag granted dag_id) (at_dag Read) (cond (not (reads_runs_of granted dag_id)) (Some (at_runs Read)) rest) none in
    let runs = first_met (reads_runs_of granted dag_id) (at_runs Read) rest (rest_met (reads_dag granted dag_id) (at_dag Read) (cond (not (reads_runs_of granted dag_id)) (Some (at_runs Read)) rest) none) in (
      here,
      (λ i. here i && runs i),
    )

module _ (granted : PairRow → Bool) (state : StateRows) where
  -- some DAG may be read exactly if some DAG of the sight may be
  some_read : list_any (λ dag. granted (on_dag Read dag)) (dag_ids state) ≡ list_any (λ dag. granted (on_dag Read dag)) (dag_ids (sight (reads_dag granted) (shows granted) state))
  some_read =
      any_kept (λ (dag : List ℕ). granted (on_dag Read dag)) (λ (row : DagRow). row.dag.dag_id) (λ (row : DagRow). reads_dag granted row.dag.dag_id)
      (λ row is. or_right (granted (on_kind Read Dags)) (granted (on_dag Read row.dag.dag_id)) is) state.dags

  -- and so with the runs of a DAG that is read
  some_runs_read : list_any (meets_by granted Runs Read) (dag_ids state) ≡ list_any (meets_by granted Runs Read) (dag_ids (sight (reads_dag granted) (shows granted) state))
  some_runs_read =
      any_kept (meets_by granted Runs Read) (λ (row : DagRow). row.dag.dag_id) (λ (row : DagRow). reads_dag granted row.dag.dag_id)
      (λ row is. (and_parts (reads_dag granted row.dag.dag_id) (granted (on_runs Read row.dag.dag_id)) is).0) state.dags

  -- each of the seven requires a token, lacks on a state the requirement that it lacks on the sight, is asked for by GET, and if it is
  -- permitted does on the state what it does on the sight
  pub record FromSight (asked : Op) (now : ℕ) : Type 0 where
    pub closed : is_open (endpoint_of asked) ≡ false
    pub unmet : first_unmet granted (dag_of asked) (dag_ids state) (needs_for asked) ≡ first_unmet granted (dag_of asked) (dag_ids (sight (reads_dag granted) (shows granted) state)) (needs_for asked)
    pub get : (route_of (endpoint_of asked)).method ≡ Get
    pub same : first_unmet granted (dag_of asked) (dag_ids state) (needs_for asked) ≡ None → effect_of (readable_by granted) state asked now ≡ effect_of (readable_by granted) (sight (reads_dag granted) (shows granted) state) asked now

  pub from_sight : (asked : Op) (now : ℕ) → reads_dags asked ≡ true → FromSight asked now
  from_sight (op.ListDags asked) now is = record {
    closed = refl;
    unmet = ap (λ (some : Bool). cond (not (granted (on_kind Read Dags) || some)) (Some (at_some_dag Read)) None) some_read;
    get = refl;
    same = λ none. listed (reads_dag granted) (shows granted) state asked;
  }
  from_sight (op.GetDag dag_id) now is = record {
    closed = refl;
    unmet = refl;
    get = refl;
    same = λ none. got (reads_dag granted) (shows granted) state dag_id (first_met (reads_dag granted dag_id) (at_dag Read) None none);
  }
  from_sight (op.ListTasks dag_id) now is = record {
    closed = refl;
    unmet = refl;
    get = refl;
    same = λ none. tasks_listed (reads_dag granted) (shows granted) state dag_id (first_met (reads_dag granted dag_id) (at_dag Read) (first_unmet granted (Some dag_id) [] (on_all Read TaskInstances ∷ [])) none);
  }
  from_sight (op.ListRuns None asked) now is = record {
    closed = refl;
    unmet = λ i. cond (not (granted (on_kind Read Dags) || some_read i)) (Some (at_some_dag Read)) (cond (not (granted (on_kind Read DagRuns) || some_runs_read i)) (Some (on_all Read DagRuns)) None);
    get = refl;
    same = λ none. all_listed (reads_dag granted) (shows granted) state asked;
  }
  from_sight (op.ListRuns (Some dag_id) asked) now is = record {
    closed = refl;
    unmet = refl;
    get = refl;
    same = λ none. let both = both_met granted dag_id None none in runs_listed (reads_dag granted) (shows granted) state dag_id both.0 both.1 asked;
  }
  from_sight (op.GetRun dag_id run_id) now is = record {
    closed = refl;
    unmet = refl;
    get = refl;
    same = λ none. let both = both_met granted dag_id None none in run_got (reads_dag granted) (shows granted) state dag_id both.0 both.1 run_id;
  }
  from_sight (op.ListInstances dag_id run_id asked) now is = record {
    closed = refl;
    unmet = refl;
    get = refl;
    same = λ none. let both = both_met granted dag_id (first_unmet granted (Some dag_id) [] (on_all Read TaskInstances ∷ [])) none in instances_listed (reads_dag granted) (shows granted) state dag_id both.0 both.1 run_id asked;
  }
  from_sight (op.GetInstance dag_id run_id task_id) now is = record {
    closed = refl;
    unmet = refl;
    get = refl;
    same = λ none. let both = both_met granted dag_id (first_unmet granted (Some dag_id) [] (on_all Read TaskInstances ∷ [])) none in instance_got (reads_dag granted) (shows granted) state dag_id both.0 both.1 run_id task_id;
  }
  from_sight op.Version now is = absurd (cc)
  from_sight (op.PauseDag dag_id input) now is = absurd (cc)
  from_sight (op.TriggerRun dag_id input) now is = absurd (cc)
  from_sight (op.MarkRun dag_id run_id input) now is = absurd (cc)
  from_sight (op.DeleteRun dag_id run_id) now is = absurd (cc)
  from_sight (op.ClearRun dag_id run_id input) now is = absurd (cc)
  from_sight (op.ClearInstances dag_id input) now is = absurd (cc)
  from_sight (op.BackfillDag dag_id input) now is = absurd (cc)
  from_sight (op.Pool it) now is = absurd (cc)
  from_sight (op.Variable it) now is = absurd (cc)

-- the seven require a token
pub closed_of : (asked : Op) (state : StateRows) → reads_dags asked ≡ true → is_open (endpoint_of asked) ≡ false
closed_of asked state is = (from_sight (λ pair. false) state asked 0 is).closed

-- ---- verdicts

module _ (granted : PairRow → Bool) (asked : Op) (now : ℕ) (is : reads_dags asked ≡ true) where
  -- the reader's sight, under version 0 and with no entries
  abbrev sight_of : StateRows → StandingRows
  sight_of state = record { under = record { version = 0; seq = 0 }; state = sight (reads_dag granted) (shows granted) state }

  -- the verdict is that on the sight, whatever the number of entries
  to_sight : (limit : ℕ) (standing : StandingRows) → granted_verdict limit granted standing asked now ≡ granted_verdict 0 granted (sight_of standing.state) asked now
  to_sight limit standing =
      let it = from_sight granted standing.state asked now is in
      by (first_unmet granted (dag_of asked) (dag_ids standing.state) (needs_for asked)) (λ effect. readings_keep (readable_by granted) standing.state asked now effect it.get) it.same
      ∙ ap (permitted 0 granted (sight_of standing.state) asked now) it.unmet
    where
      by : (missing : Option Need) → ((effect : Effect) → effect_of (readable_by granted) standing.state asked now ≡ Ok effect → effect.next ≡ None) → (missing ≡ None → effect_of (readable_by granted) standing.state asked now ≡ effect_of (readable_by granted) (sight_of standing.state).state asked now) → permitted limit granted standing asked now missing ≡ permitted 0 granted (sight_of standing.state) asked now missing
      by (Some need) keeps same = refl
      by None keeps same = done_alike limit 0 standing.under (sight_of standing.state).under (effect_of (readable_by granted) standing.state asked now) keeps ∙ ap (done 0 (sight_of standing.state).under) (same refl)

  pub granted_alike : (limit another : ℕ) (standing other : StandingRows) → Alike (reads_dag granted) (shows granted) standing.state other.state → granted_verdict limit granted standing asked now ≡ granted_verdict another granted other asked now
  granted_alike limit another standing other alike =
      to_sight limit standing
      ∙ ap (λ (state : StateRows). granted_verdict 0 granted (record { under = record { version = 0; seq = 0 }; state = state }) asked now) (one_sight (reads_dag granted) (shows granted) standing.state other.state alike)
      ∙ sym (to_sight another other)

-- of whoever the token's user is, or nobody
judged_alike : (limit another : ℕ) (policy : PolicyRows) (standing other : StandingRows) (asked : Op) (now : ℕ) (bearer : Option (List ℕ)) → reads_dags asked ≡ true → ((user : List ℕ) → bearer ≡ Some user → AlikeFor policy user standing.state other.state) → judged limit policy standing asked now bearer ≡ judged another policy other asked now bearer
judged_alike limit another policy standing other asked now None is alike = refl
judged_alike limit another policy standing other asked now (Some user) is alike =
    granted_alike (grants policy user) asked now is limit another standing other (alike user refl)

pub verdict_alike : (limit another : ℕ) (policy : PolicyRows) (standing other : StandingRows) (token : Option (List ℕ)) (asked : Op) (now : ℕ) → reads_dags asked ≡ true → ((user : List ℕ) → bearer_of policy token ≡ Some user → AlikeFor policy user standing.state other.state) → verdict limit policy standing token asked now ≡ verdict another policy other token asked now
verdict_alike limit another policy standing other token asked now is alike =
    rw (closed_of asked standing.state is) (judged_alike limit another policy standing other asked now (bearer_of policy token) is alike)

-- status and body of a verdict's answer, whatever the number of entries
told_alike : (asked : Op) (one other : Under) (it : Verdict) → option_map status_and_body (answer_of asked one it) ≡ option_map status_and_body (answer_of asked other it)
told_alike asked one other (Open reply) = refl
told_alike asked one other Stranger = refl
told_alike asked one other (Lacks need) = refl
told_alike asked one other (Refuses fault) = by (problem_of asked (why.Op fault))
  where
    by : (problem : Option Problem) → option_map status_and_body (option_map (problem_told one) problem) ≡ option_map status_and_body (option_map (problem_told other) problem)
    by None = refl
    by (Some it) = refl
told_alike asked one other (Tells reply) = refl
told_alike asked one other (Changes reply next) = refl

pub blind : Blindness
blind limit another policy standing other token asked now is alike =
    told_alike asked standing.under other.under (verdict limit policy standing token asked now)
    ∙ ap (λ (it : Verdict). option_map status_and_body (answer_of asked other.under it)) (verdict_alike limit another policy standing other token asked now is alike)
