-- The actions on single DAGs and on their runs, as a row for each of these DAGs.
use Rattle.std.specs.Prelude.{ℕ, List, Bool, ◌&&◌, nat_eq}
use Rattle.std.specs.List.{list_any}
use Rattle.std.specs.Cmp.Lexicographic.{pointwise}
use Rattle.af_role.specs.declared.action.Action.{Action}
use Rattle.af_role.specs.declared.actions.Actions.{Actions}
use Rattle.af_role.specs.declared.dag_mask.DagActions.{DagActions}
use Rattle.af_role.specs.declared.dag_part.DagPart.{DagPart}
use Rattle.af_role.specs.declared.dag_part.DagPart.TheVariants.{Itself, Runs}
use Rattle.af_role.specs.ActionSets.{has}

abbrev pub id_of : DagActions → List ℕ
id_of row = row.dag

-- what the row has on the DAG itself, or on its runs
abbrev pub actions_on : DagPart → DagActions → Actions
actions_on Itself row = row.actions
actions_on Runs row = row.runs

-- the row is that of the DAG, and has the action
abbrev pub row_has : DagPart → List ℕ → Action → DagActions → Bool
row_has part dag action row = pointwise nat_eq row.dag dag && has (actions_on part row) action

-- the action on the DAG, or on its runs, is there
abbrev pub dag_has : List DagActions → DagPart → List ℕ → Action → Bool
dag_has rows part dag action = list_any (row_has part dag action) rows
