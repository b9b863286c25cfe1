-- What a user's roles list for the requirements of an operation (Airflow 2, "Access Control": a user has the permissions of each of
-- the user's roles; a permission on `DAGs` holds at each DAG, one on `DAG:d` at the DAG d; that one on `DAG Run:d` holds at the runs of
-- the DAG d, and what "all DAGs" asks for, are this product's own rules).
use Rattle.std.specs.Prelude.{◌≡◌, ℕ, List, ◌∷◌, ◌++◌, Bool, true, false, Option, Some, ◌⊎◌}
use Rattle.std.specs.List.{Any, AllByRecursion}
use Rattle.af_role.specs.declared.action.Action.{Action}
use Rattle.af_role.specs.declared.action.Action.TheVariants.{Read}
use Rattle.af_role.specs.declared.need.Need.{Need}
use Rattle.af_role.specs.declared.dag_part.DagPart.{DagPart}
use Rattle.af_role.specs.declared.dag_part.DagPart.TheVariants.{Itself, Runs}
use Rattle.af_role.specs.declared.resource.ResourceKind.TheVariants.{Dags, DagRuns}
use Rattle.af_role.specs.Pairs.{PairRow, on_dag, on_kind, on_part, on_runs}
use Rattle.af_policy.specs.Laws.{Grants}
use Rattle.af_policy.specs.Rows.{PolicyRows}

-- a role of the user lists the permission
abbrev pub RolesList : PolicyRows → List ℕ → PairRow → Type 0
RolesList policy user pair = Grants policy user pair

-- the user's roles list a permission to read the DAG
abbrev pub MayRead : PolicyRows → List ℕ → List ℕ → Type 0
MayRead policy user dag = RolesList policy user (on_kind Read Dags) ⊎ RolesList policy user (on_dag Read dag)

-- and one to read its runs
abbrev pub MayReadRuns : PolicyRows → List ℕ → List ℕ → Type 0
MayReadRuns policy user dag = RolesList policy user (on_kind Read DagRuns) ⊎ RolesList policy user (on_runs Read dag)

-- the runs of a DAG are shown to who may read the DAG and its runs
abbrev pub MaySeeRuns : PolicyRows → List ℕ → List ℕ → Type 0
MaySeeRuns policy user dag = MayRead policy user dag × MayReadRuns policy user dag

-- an action for all DAGs, by one DAG; an action on runs for all DAGs, by the runs of one that the roles let the user read
abbrev pub ListsBy : PolicyRows → List ℕ → DagPart → Action → List ℕ → Type 0
ListsBy policy user Itself action d = RolesList policy user (on_dag action d)
ListsBy policy user Runs action d = MayRead policy user d × RolesList policy user (on_runs action d)

-- an action on the DAG that is named, or on its runs; or for all DAGs, by one that is there
abbrev pub ListsPart : PolicyRows → List ℕ → DagPart → Action → Bool → Option (List ℕ) → List (List ℕ) → Type 0
ListsPart policy user part action true dag dags = (d : List ℕ) × (dag ≡ Some d) × RolesList policy user (on_part part action d)
ListsPart policy user part action false dag dags = Any (ListsBy policy user part action) dags

-- the user's roles list a permission for a requirement, where the request names this DAG, or none, and these DAGs are there
abbrev pub ListsFor : PolicyRows → List ℕ → Option (List ℕ) → List (List ℕ) → Need → Type 0
ListsFor policy user dag dags need =
    RolesList policy user (on_kind need.action need.kind)
    ⊎ (((need.kind ≡ Dags) × ListsPart policy user Itself need.action need.at_dag dag dags)
    ⊎ ((need.kind ≡ DagRuns) × ListsPart policy user Runs need.action need.at_dag dag dags))

-- for each of these requirements
abbrev pub ListsForEach : PolicyRows → List ℕ → Option (List ℕ) → List (List ℕ) → List Need → Type 0
ListsForEach policy user dag dags needs = AllByRecursion (ListsFor policy user dag dags) needs

-- of these requirements it is the first for which they list none
pub record IsFirstLacked (policy : PolicyRows) (user : List ℕ) (dag : Option (List ℕ)) (dags : List (List ℕ)) (needs : List Need) (need : Need) : Type 0 where
  pub before : List Need
  pub later : List Need
  pub stands : needs ≡ before ++ need ∷ later
  pub listed : ListsForEach policy user dag dags before
  pub lacked : ListsFor policy user dag dags need → ⊥
