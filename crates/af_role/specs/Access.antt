-- Access control of one DAG: which roles list which actions on it and on its runs after a sync (Airflow 2, "Access Control", DAG-level
-- permissions: a DAG's `access_control` maps roles to actions; that a sync takes nothing from Admin is this product's own rule).
use Rattle.std.specs.Prelude.{ℕ, List, [], ◌∷◌, ◌++◌, Bool, false, not, nat_eq, codes, Option, Some, None, option_map, Result, Ok, Err, map, if◌then◌else◌}
use Rattle.std.specs.List.{filter, filter_map, find, flat_map, list_any}
use Rattle.std.specs.Option.{option_or}
use Rattle.std.specs.Cmp.Lexicographic.{pointwise}
use Rattle.af_role.specs.declared.action.Action.{Action}
use Rattle.af_role.specs.declared.dag_part.DagPart.{DagPart}
use Rattle.af_role.specs.declared.dag_part.DagPart.TheVariants.{Itself, Runs}
use Rattle.af_role.specs.declared.resource.Resource.{Resource}
use Rattle.af_role.specs.declared.resource.Resource.TheVariants.{Kind, Dag}
use Rattle.af_role.specs.declared.access.AccessRow.{AccessRow}
use Rattle.af_role.specs.declared.sync_fault.SyncFault.{SyncFault}
use Rattle.af_role.specs.declared.sync_fault.SyncFault.TheVariants.{BadAction, UnknownRole}
use Rattle.af_role.specs.Resources.{action_of}
use Rattle.af_role.specs.Pairs.{PairRow, pair_of, part_carries, with_pairs}
use Rattle.af_role.specs.Roles.{RoleRow}

-- an action that a single DAG, or its runs, carry
abbrev pub carried_by : DagPart → Option Action → Bool
carried_by part None = false
carried_by part (Some action) = part_carries part action

abbrev pub is_part_action : DagPart → List ℕ → Bool
is_part_action part text = carried_by part (action_of text)

-- the first text that is no such action
abbrev pub bad_text : DagPart → List (List ℕ) → Option (List ℕ)
bad_text part texts = find (λ text. not (is_part_action part text)) texts

-- of a row: those on runs come first, as `DAG Runs` comes before `DAGs` in byte order
abbrev pub bad_in_row : AccessRow → Option (List ℕ)
bad_in_row row = option_or (bad_text Runs row.runs) (bad_text Itself row.actions)

-- of the rows, in their order
abbrev pub bad_action : List AccessRow → Option (List ℕ)
bad_action [] = None
bad_action (row ∷ rows) = option_or (bad_in_row row) (bad_action rows)

-- the permission of an action on a DAG or its runs, by the action and by its text; none if there is no such action, or if it is
-- `can_create` on the DAG itself
abbrev pub on_that_dag : DagPart → List ℕ → Option Action → Option PairRow
on_that_dag part dag None = None
on_that_dag part dag (Some action) = pair_of action (Dag part dag)

abbrev pub pair_at : DagPart → List ℕ → List ℕ → Option PairRow
pair_at part dag text = on_that_dag part dag (action_of text)

-- those of the texts that name such an action
abbrev pub pairs_at : DagPart → List ℕ → List (List ℕ) → List PairRow
pairs_at part dag texts = filter_map (pair_at part dag) texts

-- the texts that a row lists for the DAG itself, or for its runs
abbrev pub texts_on : DagPart → AccessRow → List (List ℕ)
texts_on Itself row = row.actions
texts_on Runs row = row.runs

-- the permissions on the DAG and on its runs that a row lists for a role
abbrev pub row_pairs : List ℕ → List ℕ → AccessRow → List PairRow
row_pairs dag name row =
    if pointwise nat_eq row.role name then pairs_at Itself dag row.actions ++ pairs_at Runs dag row.runs else []

-- those that any of the rows lists for it
abbrev pub listed_pairs : List ℕ → List AccessRow → List ℕ → List PairRow
listed_pairs dag access name = flat_map (row_pairs dag name) access

-- a permission on that DAG alone, or on its runs alone
abbrev pub is_on_dag : List ℕ → Resource → Bool
is_on_dag dag (Kind kind) = false
is_on_dag dag (Dag part own) = pointwise nat_eq own dag

abbrev pub is_about : List ℕ → PairRow → Bool
is_about dag pair = is_on_dag dag pair.resource

abbrev pub is_admin_name : List ℕ → Bool
is_admin_name name = pointwise nat_eq name (codes "Admin")

-- what a role keeps: Admin all, each other role what is not about that DAG alone
abbrev pub kept_pairs : List ℕ → RoleRow → List PairRow
kept_pairs dag role =
    if is_admin_name role.name then role.pairs else filter (λ pair. not (is_about dag pair)) role.pairs

-- the role after the sync: what it keeps, and what is listed for it, each at its place
abbrev pub synced_role : List ℕ → List AccessRow → RoleRow → RoleRow
synced_role dag access role = record { name = role.name; pairs = with_pairs (kept_pairs dag role) (listed_pairs dag access role.name) }

-- a role of that name is there
abbrev pub has_role : List RoleRow → List ℕ → Bool
has_role roles name = list_any (λ role. pointwise nat_eq name role.name) roles

-- the first role that is named and is not there
abbrev pub unknown_role : List RoleRow → List AccessRow → Option (List ℕ)
unknown_role roles access = option_map (λ row. row.role) (find (λ row. not (has_role roles row.role)) access)

abbrev pub synced_unless : List RoleRow → List ℕ → List AccessRow → Option (List ℕ) → Option (List ℕ) → Result (List RoleRow) SyncFault
synced_unless roles dag access (Some text) unknown = Err (BadAction text)
synced_unless roles dag access None (Some name) = Err (UnknownRole name)
synced_unless roles dag access None None = Ok (map (synced_role dag access) roles)

-- the roles after a sync of that DAG, or why there is none; where there is no access control they stay
abbrev pub synced : List RoleRow → List ℕ → Option (List AccessRow) → Result (List RoleRow) SyncFault
synced roles dag None = Ok roles
synced roles dag (Some access) = synced_unless roles dag access (bad_action access) (unknown_role roles access)
