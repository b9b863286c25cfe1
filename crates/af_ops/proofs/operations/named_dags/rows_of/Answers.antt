use Rattle.std.proofs.Common.{◌∙◌, ap, map}
use Rattle.std.specs.Option.{option_copied}
use Rattle.af_sched.specs.State.{dag_of}
use Rattle.af_ops.proofs.NamedLemmas.{found_more}
use Rattle.af_ops.proofs.operations.named_dags.rows_of.Goals as goal

pub loop-dag-preserved : goal.loop-dag-preserved
loop-dag-preserved c =
    found_more (dag_of c.args.state.now.rows.dags) c.args.named.now c.loop-dag.dag-index c.dag-item.result (option_copied c.dag.result)
    (map (λ row. row.now) c.loop-dag.listed.items) (map (λ row. row.now) c.add_found.new.listed.items) c.loop-dag-test.true c.dag-item.is (c.dag.ensures ∙ ap (dag_of c.args.state.now.rows.dags) c.dag_id.ensures) c.loop-dag.invariant c.in_ok-add_found.ensures
