-- Actions and resources, their texts and the order in which they are shown (Airflow 2, "Access Control": a
-- permission is an action on a resource; the eight kinds, the runs of one DAG and the order are this product's own choice).
use Rattle.std.specs.Prelude.{ℕ, List, [], ◌∷◌, ◌++◌, Bool, Option, Some, None, option_map, nat_eq, if◌then◌else◌, codes, drop, length, Ok, Err, Result}
use Rattle.std.specs.List.{find, starts_with}
use Rattle.std.specs.Cmp.Lexicographic.{pointwise, slice_cmp}
use Rattle.std.specs.Ordering.{eq_of_both, nat_cmp, on, then_cmp}
use Rattle.std.specs.declared.cmp.Ordering.{Ordering}
use Rattle.af_names.specs.Names.{named, id_grammar}
use Rattle.af_names.specs.declared.name_error.NameError.{NameError}
use Rattle.af_role.specs.declared.action.Action.{Action}
use Rattle.af_role.specs.declared.action.Action.TheVariants.{Create, Read, Edit, Delete}
use Rattle.af_role.specs.declared.resource.ResourceKind.{ResourceKind}
use Rattle.af_role.specs.declared.resource.ResourceKind.TheVariants.{Dags, DagRuns, TaskInstances, Pools, Variables, AuditLogs, Roles, Users}
use Rattle.af_role.specs.declared.dag_part.DagPart.{DagPart}
use Rattle.af_role.specs.declared.dag_part.DagPart.TheVariants.{Itself, Runs}
use Rattle.af_role.specs.declared.resource.Resource.{Resource}
use Rattle.af_role.specs.declared.resource.Resource.TheVariants.{Kind, Dag}

-- the four actions, in the order in which they are shown
abbrev pub actions : List Action
actions = Create ∷ Read ∷ Edit ∷ Delete ∷ []

abbrev pub action_text : Action → List ℕ
action_text Create = codes "can_create"
action_text Read = codes "can_read"
action_text Edit = codes "can_edit"
action_text Delete = codes "can_delete"

-- an action's place in that order
abbrev pub action_rank : Action → ℕ
action_rank Create = 0
action_rank Read = 1
action_rank Edit = 2
action_rank Delete = 3

abbrev pub same_action : Action → Action → Bool
same_action = on action_rank nat_eq

-- the action whose text this is
abbrev pub action_of : List ℕ → Option Action
action_of text = find (λ action. pointwise nat_eq (action_text action) text) actions

-- the eight kinds of resources, in the order in which they are shown
abbrev pub kinds : List ResourceKind
kinds = Dags ∷ DagRuns ∷ TaskInstances ∷ Pools ∷ Variables ∷ AuditLogs ∷ Roles ∷ Users ∷ []

abbrev pub kind_text : ResourceKind → List ℕ
kind_text Dags = codes "DAGs"
kind_text DagRuns = codes "DAG Runs"
kind_text TaskInstances = codes "Task Instances"
kind_text Pools = codes "Pools"
kind_text Variables = codes "Variables"
kind_text AuditLogs = codes "Audit Logs"
kind_text Roles = codes "Roles"
kind_text Users = codes "Users"

abbrev pub kind_rank : ResourceKind → ℕ
kind_rank Dags = 0
kind_rank DagRuns = 1
kind_rank TaskInstances = 2
kind_rank Pools = 3
kind_rank Variables = 4
kind_rank AuditLogs = 5
kind_rank Roles = 6
kind_rank Users = 7

abbrev pub same_kind : ResourceKind → ResourceKind → Bool
same_kind = on kind_rank nat_eq

-- the kind whose text this is
abbrev pub kind_of : List ℕ → Option ResourceKind
kind_of text = find (λ kind. pointwise nat_eq (kind_text kind) text) kinds

-- one DAG is written as `DAG:` and its id, the runs of one DAG as `DAG Run:` and the DAG's id
abbrev pub part_prefix : DagPart → List ℕ
part_prefix Itself = codes "DAG:"
part_prefix Runs = codes "DAG Run:"

-- they stand after the eight kinds: single DAGs, and then the runs of single DAGs
abbrev pub part_rank : DagPart → ℕ
part_rank Itself = 8
part_rank Runs = 9

abbrev pub same_part : DagPart → DagPart → Bool
same_part = on part_rank nat_eq

-- a whole kind is written as the kind
abbrev pub resource_text : Resource → List ℕ
resource_text (Kind kind) = kind_text kind
resource_text (Dag part dag) = part_prefix part ++ dag

abbrev pub resource_rank : Resource → ℕ
resource_rank (Kind kind) = kind_rank kind
resource_rank (Dag part dag) = part_rank part

-- what is about single DAGs stands in byte order of their ids
abbrev pub resource_id : Resource → List ℕ
resource_id (Kind kind) = []
resource_id (Dag part dag) = dag

abbrev pub resource_cmp : Resource → Resource → Ordering
resource_cmp = then_cmp (on resource_rank nat_cmp) (on resource_id (slice_cmp nat_cmp))

abbrev pub same_resource : Resource → Resource → Bool
same_resource = eq_of_both (on resource_rank nat_eq) (on resource_id (pointwise nat_eq))

-- the single DAG of an id, or its runs
abbrev pub dag_named : DagPart → Result (List ℕ) NameError → Option Resource
dag_named part (Ok dag) = Some (Dag part dag)
dag_named part (Err fault) = None

-- by what follows `DAG:`, and by what follows `DAG Run:`
abbrev pub resource_from : List ℕ → Option (List ℕ) → Option (List ℕ) → Option Resource
resource_from text (Some id) runs = dag_named Itself (named id_grammar id)
resource_from text None (Some id) = dag_named Runs (named id_grammar id)
resource_from text None None = option_map Kind (kind_of text)

-- what follows a prefix
abbrev pub rest_after : List ℕ → List ℕ → Option (List ℕ)
rest_after text prefix = if starts_with nat_eq text prefix then Some (drop (length prefix) text) else None

-- the resource whose text this is: the kind of that text, the single DAG whose id follows `DAG:`, or its runs where the id follows
-- `DAG Run:`
abbrev pub resource_of : List ℕ → Option Resource
resource_of text = resource_from text (rest_after text (part_prefix Itself)) (rest_after text (part_prefix Runs))
