use Rattle.std.proofs.Common.{◌≡◌, ◌+◌, ◌≤◌, take, length, map}
use Rattle.af_graph.specs.States.{number_in}
use Rattle.af_graph.specs.declared.task_state.TaskState.TheVariants.{Success, Failed, UpstreamFailed, Skipped}
use Rattle.af_sched.specs.Settle.{state_at}
use Rattle.af_sched.proofs.tick.settle.counts_of.Given as goal

abbrev pub invariant-loop-place : goal.invariant-loop-place
invariant-loop-place l =
    (l.counts.all ≡ length l.places)
    × (l.counts.success ≡ number_in Success (map (state_at l.instances) (take l.place-index l.places)))
    × (l.counts.failed ≡ number_in Failed (map (state_at l.instances) (take l.place-index l.places)))
    × (l.counts.upstream_failed ≡ number_in UpstreamFailed (map (state_at l.instances) (take l.place-index l.places)))
    × (l.counts.skipped ≡ number_in Skipped (map (state_at l.instances) (take l.place-index l.places)))
    × (l.counts.success + l.counts.failed + l.counts.upstream_failed + l.counts.skipped ≤ l.place-index)
