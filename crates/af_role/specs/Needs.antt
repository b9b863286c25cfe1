-- How a requirement is written: `DAG:d.action` at the DAG d, else `Resource.action`; one on runs never names the DAG (this product's own
-- rule).
use Rattle.std.specs.Prelude.{ℕ, List, ◌++◌, Option, Some, None, ◌&&◌, if◌then◌else◌, codes}
use Rattle.af_role.specs.declared.need.Need.{Need}
use Rattle.af_role.specs.declared.resource.ResourceKind.TheVariants.{Dags}
use Rattle.af_role.specs.declared.dag_part.DagPart.TheVariants.{Itself}
use Rattle.af_role.specs.declared.resource.Resource.{Resource}
use Rattle.af_role.specs.declared.resource.Resource.TheVariants.{Kind, Dag}
use Rattle.af_role.specs.Resources.{action_text, resource_text, same_kind}

-- the resource that a requirement names, where the request is about this DAG, or about none
abbrev pub named_resource : Need → Option (List ℕ) → Resource
named_resource need None = Kind need.kind
named_resource need (Some dag) = if need.at_dag && same_kind need.kind Dags then Dag Itself dag else Kind need.kind

abbrev pub need_text : Need → Option (List ℕ) → List ℕ
need_text need dag = resource_text (named_resource need dag) ++ (codes "." ++ action_text need.action)
