use Rattle.std.proofs.Common.{◌≡◌, ◌+◌, ◌≤◌, take, length}
use Rattle.af_graph.specs.States.{number_in}
use Rattle.af_graph.specs.declared.task_state.TaskState.TheVariants.{Success, Failed, UpstreamFailed, Skipped}
use Rattle.af_graph.proofs.counts.Counts.of.Given as goal

abbrev pub invariant-loop-state : goal.invariant-loop-state
invariant-loop-state l =
    (l.counts.all ≡ length l.upstream)
    × (l.counts.success ≡ number_in Success (take l.state-index l.upstream))
    × (l.counts.failed ≡ number_in Failed (take l.state-index l.upstream))
    × (l.counts.upstream_failed ≡ number_in UpstreamFailed (take l.state-index l.upstream))
    × (l.counts.skipped ≡ number_in Skipped (take l.state-index l.upstream))
    × (l.counts.success + l.counts.failed + l.counts.upstream_failed + l.counts.skipped ≤ l.state-index)
