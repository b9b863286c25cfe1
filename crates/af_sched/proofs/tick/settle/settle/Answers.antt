use Rattle.std.proofs.Common.{◌≡◌, sym, subst, length, arith, ℕ}
use Rattle.af_graph.proofs.RowLemmas.{length-upstream_rows}
use Rattle.af_sched.proofs.SettleLemmas.{Settling, Settling-step, Settling-ends}
use Rattle.af_sched.proofs.tick.settle.settle.Goals as goal

pub settle_at-requires-clause-place : goal.settle_at-requires-clause-place
settle_at-requires-clause-place c =
    omega (arith, c.from.ensures, (c.order-order.ensures.rule.step c.loop-place.place-index c.loop-place-test.true).free.here, length-upstream_rows c.args.dag.now.tasks)

pub loop-place-preserved : goal.loop-place-preserved
loop-place-preserved c =
    Settling-step c.args.at c.args.dag.now.tasks c.order-order.result.now c.order-order.ensures.rule c.loop-place.place-index c.from.result c.args.instances.now c.loop-place.instances c.settle_at.new.instances (sym c.from.ensures) c.loop-place-test.true c.requires c.settle_at.ensures c.loop-place.invariant

pub returns : goal.returns
returns c =
    let ended : c.loop-place.place-index ≡ length c.order-order.result.now = omega arith in
    Settling-ends c.args.at c.args.dag.now.tasks c.order-order.result.now c.order-order.ensures.rule c.args.instances.now c.loop-place.instances (λ place within. c.order-order.ensures.whole place (omega arith)) (subst (λ (n : ℕ). Settling c.args.at c.args.dag.now.tasks c.order-order.result.now n c.args.instances.now c.loop-place.instances) ended c.loop-place.invariant)
