-- The tests of requirements decide what the roles of a user list.
use Rattle.std.proofs.Common.{◌≡◌, refl, ap, inl, inr, ℕ, List, [], ◌∷◌, Bool, true, false, not, cond}
use Rattle.std.specs.Prelude.{◌⊎◌, Option, Some, None}
use Rattle.std.specs.Bool.{Decides}
use Rattle.std.specs.List.{Any, list_any}
use Rattle.std.proofs.lemmas.Bool.Decides.{Decides-and, Decides-or, not_from_Decides}
use Rattle.std.proofs.lemmas.List.Folds.{Any-from_list_any, list_any-from_Any}
use Rattle.af_role.specs.declared.action.Action.{Action}
use Rattle.af_role.specs.declared.action.Action.TheVariants.{Read}
use Rattle.af_role.specs.declared.need.Need.{Need}
use Rattle.af_role.specs.declared.resource.ResourceKind.{ResourceKind}
use Rattle.af_role.specs.declared.resource.ResourceKind.TheVariants.{Dags, DagRuns, TaskInstances, Pools, Variables, AuditLogs, Roles, Users}
use Rattle.af_role.specs.declared.dag_part.DagPart.{DagPart}
use Rattle.af_role.specs.declared.dag_part.DagPart.TheVariants.{Itself, Runs}
use Rattle.af_role.specs.Pairs.{on_dag, on_kind, on_part, on_runs}
use Rattle.af_policy.specs.Grants.{first_unmet, grants, meets, meets_at, meets_by, meets_part, meets_somewhere, part_of, readable, reads_dag, reads_runs_of, shows_runs}
use Rattle.af_policy.specs.Rows.{PolicyRows}
use Rattle.af_policy.proofs.GrantLemmas.{grants-decides}
use Rattle.af_world.specs.Rules.{IsFirstLacked, ListsBy, ListsFor, ListsForEach, ListsPart, MayRead, MayReadRuns, MaySeeRuns, RolesList}

list_any-decides : {X : Type 0} (test : X → Bool) (P : X → Type 0) → ((x : X) → Decides (test x) (P x)) → (xs : List X) → Decides (list_any test xs) (Any P xs)
list_any-decides test P each xs = (
  λ passes. let found = Any-from_list_any test xs passes in (found.0, found.1, found.2, found.3, (each found.1).0 found.4),
  λ found. list_any-from_Any test xs (found.0, found.1, found.2, found.3, (each found.1).1 found.4),
)

module _ (policy : PolicyRows) (user : List ℕ) where
  pub reads-decides : (dag : List ℕ) → Decides (reads_dag (grants policy user) dag) (MayRead policy user dag)
  reads-decides dag = Decides-or _ _ (grants-decides policy user (on_kind Read Dags)) (grants-decides policy user (on_dag Read dag))

  pub reads_runs-decides : (dag : List ℕ) → Decides (reads_runs_of (grants policy user) dag) (MayReadRuns policy user dag)
  reads_runs-decides dag = Decides-or _ _ (grants-decides policy user (on_kind Read DagRuns)) (grants-decides policy user (on_runs Read dag))

  pub sees-decides : (dag : List ℕ) → Decides (shows_runs (readable policy user) dag) (MaySeeRuns policy user dag)
  sees-decides dag = Decides-and _ _ (reads-decides dag) (reads_runs-decides dag)

  -- an action on a DAG, or on its runs
  abbrev part_test : DagPart → Action → Bool → Option (List ℕ) → List (List ℕ) → Bool
  part_test part action at_dag dag dags =
      cond at_dag (meets_at (grants policy user) part action dag) (meets_somewhere (grants policy user) part action dags)

  at-decides : (part : DagPart) (action : Action) (dag : Option (List ℕ)) → Decides (meets_at (grants policy user) part action dag) ((d : List ℕ) × (dag ≡ Some d) × RolesList policy user (on_part part action d))
  at-decides part action None = (λ e. absurd (cc), λ found. absurd (let e = found.1 in cc))
  at-decides part action (Some dag) = (
    λ e. (dag, refl, (grants-decides policy user (on_part part action dag)).0 e),
    λ found. let same : dag ≡ found.0 = (let e = found.1 in cc) in rw same ((grants-decides policy user (on_part part action found.0)).1 found.2),
  )

  by-decides : (part : DagPart) (action : Action) (d : List ℕ) → Decides (meets_by (grants policy user) part action d) (ListsBy policy user part action d)
  by-decides Itself action d = grants-decides policy user (on_dag action d)
  by-decides Runs action d = Decides-and _ _ (reads-decides d) (grants-decides policy user (on_runs action d))

  part-decides : (part : DagPart) (action : Action) (at_dag : Bool) (dag : Option (List ℕ)) (dags : List (List ℕ)) → Decides (part_test part action at_dag dag dags) (ListsPart policy user part action at_dag dag dags)
  part-decides part action true dag dags = at-decides part action dag
  part-decides part action false dag dags =
      list_any-decides (meets_by (grants policy user) part action) (ListsBy policy user part action) (by-decides part action) dags

  module _ (dag : Option (List ℕ)) (dags : List (List ℕ)) where
    -- what is listed for a requirement on a kind, by permissions on one DAG alone, or on its runs alone
    abbrev ListsParts : ResourceKind → Need → Type 0
    ListsParts kind need =
        ((kind ≡ Dags) × ListsPart policy user Itself need.action need.at_dag dag dags) ⊎ ((kind ≡ DagRuns) × ListsPart policy user Runs need.action need.at_dag dag dags)

    no_part : (kind : ResourceKind) → (kind ≡ Dags → ⊥) → (kind ≡ DagRuns → ⊥) → (need : Need) → Decides false (ListsParts kind need)
    no_part kind dags_not runs_not need = (λ e. absurd (cc), λ found. absurd (neither found))
      where
        neither : ListsParts kind need → ⊥
        neither (inl it) = dags_not it.0
        neither (inr it) = runs_not it.0

    kind-decides : (kind : ResourceKind) (need : Need) → Decides (meets_part (grants policy user) dag dags need (part_of kind)) (ListsParts kind need)
    kind-decides Dags need = (
      λ e. inl (refl, (part-decides Itself need.action need.at_dag dag dags).0 e),
      λ found. found_by found,
    )
      where
        found_by : ListsParts Dags need → part_test Itself need.action need.at_dag dag dags ≡ true
        found_by (inl it) = (part-decides Itself need.action need.at_dag dag dags).1 it.1
        found_by (inr it) = absurd (let e = it.0 in cc)
    kind-decides DagRuns need = (
      λ e. inr (refl, (part-decides Runs need.action need.at_dag dag dags).0 e),
      λ found. found_by found,
    )
      where
        found_by : ListsParts DagRuns need → part_test Runs need.action need.at_dag dag dags ≡ true
        found_by (inl it) = absurd (let e = it.0 in cc)
        found_by (inr it) = (part-decides Runs need.action need.at_dag dag dags).1 it.1
    kind-decides TaskInstances need = no_part TaskInstances (λ e. cc) (λ e. cc) need
    kind-decides Pools need = no_part Pools (λ e. cc) (λ e. cc) need
    kind-decides Variables need = no_part Variables (λ e. cc) (λ e. cc) need
    kind-decides AuditLogs need = no_part AuditLogs (λ e. cc) (λ e. cc) need
    kind-decides Roles need = no_part Roles (λ e. cc) (λ e. cc) need
    kind-decides Users need = no_part Users (λ e. cc) (λ e. cc) need

    meets-decides : (need : Need) → Decides (meets (grants policy user) dag dags need) (ListsFor policy user dag dags need)
    meets-decides need =
        Decides-or _ _ (grants-decides policy user (on_kind need.action need.kind)) (kind-decides need.kind need)

    -- where no requirement is lacked, the roles list a permission for each
    pub none_lacked : (needs : List Need) → first_unmet (grants policy user) dag dags needs ≡ None → ListsForEach policy user dag dags needs
    none_lacked [] e = tt
    none_lacked (need ∷ needs) e = met (meets (grants policy user) dag dags need) (none_lacked needs) refl e
      where
        met : (b : Bool) → (first_unmet (grants policy user) dag dags needs ≡ None → ListsForEach policy user dag dags needs) → meets (grants policy user) dag dags need ≡ b
            → cond (not b) (Some need) (first_unmet (grants policy user) dag dags needs) ≡ None → ListsForEach policy user dag dags (need ∷ needs)
        met true more h e = ((meets-decides need).0 h, more e)
        met false more h e = absurd (cc)

    -- the requirement that is found is the first for which they list none
    pub first_lacked : (needs : List Need) (need : Need) → first_unmet (grants policy user) dag dags needs ≡ Some need → IsFirstLacked policy user dag dags needs need
    first_lacked [] need e = absurd (cc)
    first_lacked (x ∷ needs) need e = met (meets (grants policy user) dag dags x) (first_lacked needs need) refl e
      where
        met : (b : Bool) → (first_unmet (grants policy user) dag dags needs ≡ Some need → IsFirstLacked policy user dag dags needs need) → meets (grants policy user) dag dags x ≡ b
            → cond (not b) (Some x) (first_unmet (grants policy user) dag dags needs) ≡ Some need → IsFirstLacked policy user dag dags (x ∷ needs) need
        met true more h e =
            let rest = more e in
            record {
              before = x ∷ rest.before;
              later = rest.later;
              stands = ap (λ (ns : List Need). x ∷ ns) rest.stands;
              listed = ((meets-decides x).0 h, rest.listed);
              lacked = rest.lacked;
            }
        met false more h e =
            let same : x ≡ need = cc in
            record {
              before = [];
              later = needs;
              stands = ap (λ (n : Need). n ∷ needs) same;
              listed = tt;
              lacked = rw (← same) (not_from_Decides (meets (grants policy user) dag dags x) (meets-decides x) h);
            }
