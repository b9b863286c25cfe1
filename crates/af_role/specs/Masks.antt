-- Which permissions a mask allows.
use Rattle.std.specs.Prelude.{Bool}
use Rattle.af_role.specs.declared.action.Action.{Action}
use Rattle.af_role.specs.declared.resource.Resource.{Resource}
use Rattle.af_role.specs.declared.resource.Resource.TheVariants.{Kind, Dag}
use Rattle.af_role.specs.declared.mask.Mask.{Mask}
use Rattle.af_role.specs.Pairs.{PairRow}
use Rattle.af_role.specs.KindMasks.{kind_has}
use Rattle.af_role.specs.DagMasks.{dag_has}

abbrev pub allows_on : Mask → Resource → Action → Bool
allows_on mask (Kind kind) action = kind_has mask.kinds kind action
allows_on mask (Dag part dag) action = dag_has mask.dags part dag action

abbrev pub allows : Mask → PairRow → Bool
allows mask pair = allows_on mask pair.resource pair.action
