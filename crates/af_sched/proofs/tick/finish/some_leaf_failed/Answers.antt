use Rattle.af_sched.proofs.FinishLemmas.{some_place, no_place}
use Rattle.std.proofs.Common.{◌<◌, ◌∙◌, sym, ap, arith, ℕ, length, ◌&&◌}
use Rattle.af_graph.specs.declared.task_spec.TaskSpec.{TaskSpec}
use Rattle.af_sched.specs.Finish.{is_leaf, has_failed}
use Rattle.af_sched.specs.Settle.{state_at}
use Rattle.af_sched.proofs.tick.finish.some_leaf_failed.Goals as goal

pub returns-then-is_failed_leaf : goal.returns-then-is_failed_leaf
returns-then-is_failed_leaf c =
    let inside : c.loop-place.place < length c.args.dag.now.tasks = omega (arith, ap (length {A = TaskSpec}) c.tasks-place-end.ensures) in
    sym (some_place (λ (place : ℕ). is_leaf c.args.dag.now.tasks place && has_failed (state_at c.args.instances.now place)) c.args.dag.now.tasks c.loop-place.place inside (sym c.is_failed_leaf.ensures ∙ c.if-is_failed_leaf.true))

pub returns : goal.returns
returns c =
    sym (no_place (λ (place : ℕ). is_leaf c.args.dag.now.tasks place && has_failed (state_at c.args.instances.now place)) c.args.dag.now.tasks (λ place inside. c.loop-place.invariant place (omega (arith, inside, ap (length {A = TaskSpec}) c.tasks-place-end.ensures))))
