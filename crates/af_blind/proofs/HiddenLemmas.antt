-- States that are alike for a user.
use Rattle.std.proofs.Common.{◌≡◌, ◌∙◌, refl, sym, ap, ℕ, Bool, true, false, List, map}
use Rattle.std.specs.Prelude.{◌&&◌, filter, not}
use Rattle.std.specs.Cmp.Lexicographic.{bytes_decides}
use Rattle.std.proofs.lemmas.Simd.{map-map}
use Rattle.af_graph.specs.Graph.{same_name}
use Rattle.af_policy.specs.Grants.{readable, reads, reads_runs, shows_runs}
use Rattle.af_runs.specs.declared.run.Run.{Run}
use Rattle.af_sched.specs.declared.dag_row.DagRow.{DagRow}
use Rattle.af_blind.specs.Blindness.{HiddenIsAnsweredAsAbsent, HiddenMightBeAbsent, HiddenRunsAreAnsweredAsAbsent, HiddenRunsMightBeAbsent, NumbersMightBeOthers, TheSameAreRead, renumbered, unnumbered, without_dag, without_runs}
use Rattle.af_blind.proofs.KeptLemmas.{filter_kept, filter_map}
use Rattle.af_blind.proofs.VerdictLemmas.{blind}

-- ---- a DAG that the user may not read

not_same : (b : Bool) → (b ≡ true → false ≡ true) → not b ≡ true
not_same true is = absurd (cc (is refl))
not_same false is = refl

module _ (reads : List ℕ → Bool) (dag_id : List ℕ) (hidden : reads dag_id ≡ false) where
  other_dag : (id : List ℕ) → reads id ≡ true → not (same_name id dag_id) ≡ true
  other_dag id here = not_same (same_name id dag_id) (λ is. sym (sym here ∙ ap reads ((bytes_decides id dag_id).0 is) ∙ hidden))

  pub rows_left : {X : Type 0} (dag : X → List ℕ) (rows : List X) → filter (λ (row : X). reads (dag row)) rows ≡ filter (λ (row : X). reads (dag row)) (filter (λ (row : X). not (same_name (dag row) dag_id)) rows)
  rows_left {X} dag rows = filter_kept (λ (row : X). reads (dag row)) (λ (row : X). not (same_name (dag row) dag_id)) (λ row is. other_dag (dag row) is) rows

pub hidden_absent : HiddenMightBeAbsent
hidden_absent policy user dag_id state hidden = record {
  dags = rows_left (reads policy user) dag_id hidden (λ (row : DagRow). row.dag.dag_id) state.dags;
  runs = ap (map unnumbered) (rows_left (shows_runs (readable policy user)) dag_id (ap (λ (b : Bool). b && reads_runs policy user dag_id) hidden) (λ (run : Run). run.dag_id) state.runs);
}

pub hidden_runs_absent : HiddenRunsMightBeAbsent
hidden_runs_absent policy user dag_id state hidden = record {
  dags = refl;
  runs = ap (map unnumbered) (rows_left (shows_runs (readable policy user)) dag_id hidden (λ (run : Run). run.dag_id) state.runs);
}

pub hidden_runs_answered : HiddenRunsAreAnsweredAsAbsent
hidden_runs_answered limit policy standing token user dag_id asked now is bearer hidden =
    blind limit limit policy standing (record standing { state = without_runs dag_id standing.state }) token asked now is
    (λ other it. let same : other ≡ user = (let e = sym it ∙ bearer in cc) in rw same (hidden_runs_absent policy user dag_id standing.state hidden))

pub hidden_answered : HiddenIsAnsweredAsAbsent
hidden_answered limit policy standing token user dag_id asked now is bearer hidden =
    blind limit limit policy standing (record standing { state = without_dag dag_id standing.state }) token asked now is
    (λ other it. let same : other ≡ user = (let e = sym it ∙ bearer in cc) in rw same (hidden_absent policy user dag_id standing.state hidden))

-- ---- other numbers

pub numbers_others : NumbersMightBeOthers
numbers_others policy user number next_run pools variables state = record {
  dags = refl;
  runs =
      sym (ap (map unnumbered) (filter_map (renumbered number) (λ (run : Run). shows_runs (readable policy user) run.dag_id) state.runs)
      ∙ map-map unnumbered (renumbered number) (filter (λ (run : Run). shows_runs (readable policy user) run.dag_id) state.runs));
}

-- ---- the DAGs that may be read

pub same_read : TheSameAreRead
same_read policy user state other alike =
    filter_map (λ (row : DagRow). row.dag.dag_id) (reads policy user) state.dags
    ∙ ap (map (λ (row : DagRow). row.dag.dag_id)) alike.dags
    ∙ sym (filter_map (λ (row : DagRow). row.dag.dag_id) (reads policy user) other.dags)
