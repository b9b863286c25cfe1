-- The default roles (Airflow 2, "Access Control", default roles; the permissions of each are this product's own list).
use Rattle.std.specs.Prelude.{List, [], ◌∷◌, ◌++◌, map, codes}
use Rattle.af_role.specs.declared.action.Action.{Action}
use Rattle.af_role.specs.declared.action.Action.TheVariants.{Create, Read, Edit, Delete}
use Rattle.af_role.specs.declared.resource.ResourceKind.{ResourceKind}
use Rattle.af_role.specs.declared.resource.ResourceKind.TheVariants.{Dags, DagRuns, TaskInstances, Pools, Variables, AuditLogs, Roles, Users}
use Rattle.af_role.specs.Resources.{actions}
use Rattle.af_role.specs.Pairs.{PairRow, on_kind, with_pairs}
use Rattle.af_role.specs.Roles.{RoleRow}

-- some actions on a kind
abbrev pub each_on : ResourceKind → List Action → List PairRow
each_on kind actions = map (λ action. on_kind action kind) actions

abbrev pub viewer_adds : List PairRow
viewer_adds = on_kind Read Dags ∷ on_kind Read DagRuns ∷ on_kind Read TaskInstances ∷ []

abbrev pub user_adds : List PairRow
user_adds =
    each_on Dags (Edit ∷ Delete ∷ [])
    ++ each_on DagRuns (Create ∷ Edit ∷ Delete ∷ [])
    ++ each_on TaskInstances (Create ∷ Edit ∷ Delete ∷ [])

abbrev pub op_adds : List PairRow
op_adds = each_on Pools actions ++ each_on Variables actions ++ each_on AuditLogs (Read ∷ [])

abbrev pub admin_adds : List PairRow
admin_adds = each_on Roles actions ++ each_on Users actions

unfoldable pub viewer_pairs : List PairRow
viewer_pairs = with_pairs [] viewer_adds

unfoldable pub user_pairs : List PairRow
user_pairs = with_pairs viewer_pairs user_adds

unfoldable pub op_pairs : List PairRow
op_pairs = with_pairs user_pairs op_adds

unfoldable pub admin_pairs : List PairRow
admin_pairs = with_pairs op_pairs admin_adds

abbrev pub default_rows : List RoleRow
default_rows =
    record { name = codes "Public"; pairs = [] }
    ∷ record { name = codes "Viewer"; pairs = viewer_pairs }
    ∷ record { name = codes "User"; pairs = user_pairs }
    ∷ record { name = codes "Op"; pairs = op_pairs }
    ∷ record { name = codes "Admin"; pairs = admin_pairs }
    ∷ []
