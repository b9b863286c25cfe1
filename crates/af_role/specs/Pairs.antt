-- Permissions: which pairs of an action and a resource there are, and the order in which they are shown.
use Rattle.std.specs.Prelude.{◌≡◌, ℕ, nat_eq, List, ◌++◌, Bool, true, not, Option, Some, None, if◌then◌else◌, codes, fold}
use Rattle.std.specs.Ordering.{eq_by_cmp, eq_of_both, nat_cmp, on, then_cmp}
use Rattle.std.specs.Cmp.{both_tied, unsigned_ties}
use Rattle.std.specs.Cmp.Lexicographic.{pointwise, slice_cmp, texts_ties}
use Rattle.std.specs.BTreeSet.{insert_key}
use Rattle.std.specs.declared.cmp.Ordering.{Ordering}
use Rattle.af_role.specs.declared.action.Action.{Action}
use Rattle.af_role.specs.declared.action.Action.TheVariants.{Create}
use Rattle.af_role.specs.declared.resource.ResourceKind.{ResourceKind}
use Rattle.af_role.specs.declared.dag_part.DagPart.{DagPart}
use Rattle.af_role.specs.declared.dag_part.DagPart.TheVariants.{Itself, Runs}
use Rattle.af_role.specs.declared.resource.Resource.{Resource}
use Rattle.af_role.specs.declared.resource.Resource.TheVariants.{Kind, Dag}
use Rattle.af_role.specs.Resources.{action_rank, action_text, same_action, resource_cmp, resource_id, resource_rank, resource_text, same_resource}

pub record PairRow : Type 0 where
  pub action : Action
  pub resource : Resource

-- an action on a whole kind
abbrev pub on_kind : Action → ResourceKind → PairRow
on_kind action kind = record { action = action; resource = Kind kind }

-- an action on a single DAG, or on its runs
abbrev pub on_part : DagPart → Action → List ℕ → PairRow
on_part part action dag = record { action = action; resource = Dag part dag }

abbrev pub on_dag : Action → List ℕ → PairRow
on_dag = on_part Itself

abbrev pub on_runs : Action → List ℕ → PairRow
on_runs = on_part Runs

-- the runs of a single DAG carry all four actions, the DAG itself all but `can_create`
abbrev pub part_carries : DagPart → Action → Bool
part_carries Itself action = not (same_action action Create)
part_carries Runs action = true

-- a kind carries all four
abbrev pub carries : Resource → Action → Bool
carries (Kind kind) action = true
carries (Dag part dag) action = part_carries part action

-- the permission of an action and a resource, if there is one
abbrev pub pair_of : Action → Resource → Option PairRow
pair_of action resource =
    if carries resource action then Some (record { action = action; resource = resource }) else None

-- `Resource.action`
abbrev pub pair_text : PairRow → List ℕ
pair_text pair = resource_text pair.resource ++ (codes "." ++ action_text pair.action)

abbrev pub same_pair : PairRow → PairRow → Bool
same_pair = eq_of_both (on (λ pair. pair.resource) same_resource) (on (λ pair. pair.action) same_action)

-- permissions are shown in the order of their resources, and on one resource in that of their actions
abbrev pub pair_cmp : PairRow → PairRow → Ordering
pair_cmp =
    then_cmp (on (λ pair. pair.resource) resource_cmp) (on (λ pair. pair.action) (on action_rank nat_cmp))

-- the order ties two permissions exactly where they are the same
pub same_resource-ties : (a b : Resource) → same_resource a b ≡ eq_by_cmp resource_cmp a b
same_resource-ties a b =
    both_tied (nat_eq (resource_rank a) (resource_rank b)) (pointwise nat_eq (resource_id a) (resource_id b))
    (nat_cmp (resource_rank a) (resource_rank b)) (slice_cmp nat_cmp (resource_id a) (resource_id b))
    (unsigned_ties (resource_rank a) (resource_rank b)) (texts_ties (resource_id a) (resource_id b))

pub same_pair-ties : (p q : PairRow) → same_pair p q ≡ eq_by_cmp pair_cmp p q
same_pair-ties p q =
    both_tied (same_resource p.resource q.resource) (same_action p.action q.action)
    (resource_cmp p.resource q.resource) (nat_cmp (action_rank p.action) (action_rank q.action))
    (same_resource-ties p.resource q.resource) (unsigned_ties (action_rank p.action) (action_rank q.action))

-- permissions in that order, with one more at its place, unless it stands there already
abbrev pub with_pair : List PairRow → PairRow → List PairRow
with_pair pairs pair = insert_key pair_cmp pairs pair

-- such permissions with more of them
abbrev pub with_pairs : List PairRow → List PairRow → List PairRow
with_pairs pairs more = fold with_pair pairs more
