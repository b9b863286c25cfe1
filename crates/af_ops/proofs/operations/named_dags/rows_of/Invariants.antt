use Rattle.std.proofs.Common.{◌≡◌, map, take}
use Rattle.std.specs.List.{filter_map}
use Rattle.af_sched.specs.State.{dag_of}
use Rattle.af_ops.proofs.operations.named_dags.rows_of.Given as goal

-- the rows of the ids so far
abbrev pub invariant-loop-dag : goal.invariant-loop-dag
invariant-loop-dag l =
    map (λ row. row.now) l.listed.items ≡ filter_map (dag_of l.state.rows.dags) (take l.dag-index l.named)
