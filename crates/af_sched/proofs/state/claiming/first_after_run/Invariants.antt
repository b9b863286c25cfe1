use Rattle.std.proofs.Common.{take}
use Rattle.std.specs.Prelude.{IfSome}
use Rattle.af_sched.specs.Claims.{is_claimable}
use Rattle.af_sched.specs.Placed.{placed_of}
use Rattle.af_sched.specs.Steps.{Continues}
use Rattle.af_sched.specs.Weights.{StandsBefore}
use Rattle.af_sched.proofs.state.claiming.first_after_run.Given as goal

abbrev pub invariant-loop-place : goal.invariant-loop-place
invariant-loop-place l =
    Continues is_claimable (take l.place (placed_of l.tasks l.run)) l.initial.first l.first × IfSome l.first (StandsBefore l.run.number l.place)
