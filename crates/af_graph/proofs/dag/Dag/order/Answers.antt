use Rattle.std.proofs.Common.{◌<◌, ℕ, List, length, ◌∙◌, subst}
use Rattle.std.specs.Prelude.{Contains}
use Rattle.af_graph.specs.Graph.{upstream_rows}
use Rattle.af_graph.specs.Order.{IsOrder}
use Rattle.af_graph.specs.declared.dag_spec.DagSpec.{DagSpec}
use Rattle.af_graph.proofs.DagLemmas.{order_whole, order_ruled}
use Rattle.af_graph.proofs.dag.Dag.order.Goals as goal

pub returns-clause-whole : goal.returns-clause-whole
returns-clause-whole c =
    let order : List ℕ = c.as_slice.result.now in
    let P : DagSpec → Type 0 = λ dag. (place : ℕ) → place < length dag.tasks → Contains order place in
    subst P c.self.view_is (order_whole c.self.inside.spec.tasks order (c.as_slice.ensures.value ∙ c.self.invariant.0.order) c.self.invariant.1)

pub returns-clause-rule : goal.returns-clause-rule
returns-clause-rule c =
    let order : List ℕ = c.as_slice.result.now in
    let P : DagSpec → Type 0 = λ dag. IsOrder (upstream_rows dag.tasks) order in
    subst P c.self.view_is (order_ruled c.self.inside.spec.tasks order (c.as_slice.ensures.value ∙ c.self.invariant.0.order))
