-- What a search for the id of a DAG found, and what is changed there.
use Rattle.std.proofs.Common.{◌≡◌, ◌∙◌, ℕ, List, [], ◌∷◌, ◌<◌, Bool, true, false, cond, ◌||◌, ◌==◌, map, length, get_or, set, sym, ap, refl}
use Rattle.std.specs.Prelude.{find, nat_le, not, Option, None, Some, Result, Ok, Err, MatchResult}
use Rattle.std.specs.List.{list_any}
use Rattle.std.specs.Option.{option_map_or}
use Rattle.std.specs.List.Sorted.{IsSearchInRange, IsBinarySearchResult}
use Rattle.std.specs.Ordering.{nat_cmp, is_eq}
use Rattle.std.specs.Cmp.Lexicographic.{slice_cmp, nat_list_cmp_total, texts_ties}
use Rattle.std.proofs.lemmas.Bool.{true≢false, false≢true}
use Rattle.std.specs.declared.cmp.Ordering.{Ordering}
use Rattle.std.specs.declared.cmp.Ordering.TheVariants.{Less, Equal, Greater}
use Rattle.af_names.proofs.OrderLemmas.{find-only, list_any-none, list_any-only, map-only, search_alone, search_none, search_rises}
use Rattle.af_sched.specs.Steps.{StandsAt}
use Rattle.af_sched.specs.State.{AreInOrder, FitsAt, StateRows, dag_fault, dag_of, has_dag, has_no_step, have_pools, is_of_id, most_dags, with_paused}
use Rattle.af_sched.specs.declared.add_dag_fault.AddDagFault.{AddDagFault}
use Rattle.af_sched.specs.declared.add_dag_fault.AddDagFault.TheVariants.{NoActiveRuns, NoStep, NoSuchPool, Exists, Full}
use Rattle.af_sched.specs.declared.dag_row.DagRow.{DagRow}

-- ---- no row passes a test
pub neither : (a b : Bool) → (a || b) ≡ false → (a ≡ false) × (b ≡ false)
neither true b none = absurd (true≢false none)
neither false b none = (refl, none)

pub find-absent : {X : Type 0} (p : X → Bool) (xs : List X) → list_any p xs ≡ false → find p xs ≡ None
find-absent p [] none = refl
find-absent p (x ∷ xs) none =
    let parts = neither (p x) (list_any p xs) none in rw parts.0 (find-absent p xs parts.1)

map-absent : {X : Type 0} (p : X → Bool) (g : X → X) (xs : List X) → list_any p xs ≡ false → map (λ x. cond (p x) (g x) x) xs ≡ xs
map-absent p g [] none = refl
map-absent p g (x ∷ xs) none =
    let parts = neither (p x) (list_any p xs) none in rw parts.0 (ap (λ rest. x ∷ rest) (map-absent p g xs parts.1))

-- ---- what a search found
abbrev id_of : DagRow → List ℕ
id_of row = row.dag.dag_id

pub place_from_search : (dags : List DagRow) (dag_id : List ℕ) (r : Result ℕ ℕ) → AreInOrder dags → IsSearchInRange r (length dags) → IsBinarySearchResult (λ (row : DagRow). slice_cmp nat_cmp row.dag.dag_id dag_id) dags r → MatchResult r (StandsAt dags dag_id) (FitsAt dags dag_id)
place_from_search dags dag_id (Ok place) in_order within found = record {
  within = within;
  here = λ e. texts_ties (get_or dags place e).dag.dag_id dag_id ∙ ap is_eq (found e);
  alone = λ other e inside apart. texts_ties (get_or dags other e).dag.dag_id dag_id ∙ search_alone id_of nat_list_cmp_total dag_id dags place in_order within found other e inside apart;
}
place_from_search dags dag_id (Err place) in_order within ended =
    let parted = ended (search_rises id_of nat_list_cmp_total dag_id dags in_order) in
    record {
      within = within;
      absent = list_any-none (is_of_id dag_id) dags (λ other d inside. texts_ties (get_or dags other d).dag.dag_id dag_id ∙ search_none id_of nat_list_cmp_total dag_id dags place parted other d inside);
      parted = parted;
    }

-- ---- what a guess is compared with
equal_from : (o : Ordering) → is_eq o ≡ true → o ≡ Equal
equal_from Less e = absurd (false≢true e)
equal_from Equal e = refl
equal_from Greater e = absurd (false≢true e)

-- a row of the id stands here alone
pub stands_here : (dags : List DagRow) (dag_id : List ℕ) (place : ℕ) → AreInOrder dags → place < length dags → ((d : DagRow) → is_of_id dag_id (get_or dags place d) ≡ true) → StandsAt dags dag_id place
stands_here dags dag_id place in_order within here =
    let found : (d : DagRow) → slice_cmp nat_cmp (get_or dags place d).dag.dag_id dag_id ≡ Equal =
    λ d. equal_from (slice_cmp nat_cmp (get_or dags place d).dag.dag_id dag_id) (sym (texts_ties (get_or dags place d).dag.dag_id dag_id) ∙ here d) in
    record {
      within = within;
      here = here;
      alone = λ other e inside apart. texts_ties (get_or dags other e).dag.dag_id dag_id ∙ search_alone id_of nat_list_cmp_total dag_id dags place in_order within found other e inside apart;
    }

module _ (dags : List DagRow) (dag_id : List ℕ) (place : ℕ) (stands : StandsAt dags dag_id place) where
  pub dag_of-is : (d : DagRow) → dag_of dags dag_id ≡ Some (get_or dags place d)
  dag_of-is d = find-only (is_of_id dag_id) dags place d stands.within stands.here stands.alone

  pub has_dag-is : has_dag dags dag_id ≡ true
  has_dag-is = list_any-only (is_of_id dag_id) dags place stands.within stands.here

  pub with_paused-is_set : (is_paused : Bool) (d : DagRow) → with_paused dags dag_id is_paused ≡ set dags place (record (get_or dags place d) { is_paused = is_paused })
  with_paused-is_set is_paused d = map-only (is_of_id dag_id) (λ (row : DagRow). record row { is_paused = is_paused }) dags place d stands.within stands.here stands.alone

module _ (dags : List DagRow) (dag_id : List ℕ) (absent : has_dag dags dag_id ≡ false) where
  pub dag_of-none : dag_of dags dag_id ≡ None
  dag_of-none = find-absent (is_of_id dag_id) dags absent

  pub with_paused-same : (is_paused : Bool) → with_paused dags dag_id is_paused ≡ dags
  with_paused-same is_paused = map-absent (is_of_id dag_id) (λ (row : DagRow). record row { is_paused = is_paused }) dags absent

-- ---- a DAG of the id is there, and no fault that is told before that one applies
exists_by : (no_runs no_step have has : Bool) (rest : Option AddDagFault) → no_runs ≡ false → no_step ≡ false → have ≡ true → has ≡ true → cond no_runs (Some NoActiveRuns) (cond no_step (Some NoStep) (cond (not have) (Some NoSuchPool) (cond has (Some Exists) rest))) ≡ Some Exists
exists_by no_runs no_step have has rest first second third fourth = rw (first, second, third, fourth) refl

pub exists_fault : (state : StateRows) (row : DagRow) → (row.dag.max_active_runs == 0) ≡ false → option_map_or (λ schedule. has_no_step schedule.points) row.dag.schedule false ≡ false → have_pools state.pools row.dag.tasks ≡ true → has_dag state.dags row.dag.dag_id ≡ true → dag_fault state row ≡ Some Exists
exists_fault state row first second third fourth =
    exists_by (row.dag.max_active_runs == 0) (option_map_or (λ schedule. has_no_step schedule.points) row.dag.schedule false) (have_pools state.pools row.dag.tasks) (has_dag state.dags row.dag.dag_id) (cond (nat_le most_dags (length state.dags)) (Some Full) None) first second third fourth
