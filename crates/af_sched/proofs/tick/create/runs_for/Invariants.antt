use Rattle.std.proofs.Common.{◌≡◌, take, map}
use Rattle.af_graph.specs.Schedules.{is_scheduled}
use Rattle.af_sched.specs.Create.{point_run}
use Rattle.af_sched.proofs.tick.create.runs_for.Given as goal

abbrev pub invariant-loop-point : goal.invariant-loop-point
invariant-loop-point l = l.runs.items ≡ map (point_run l.run_type l.dag (is_scheduled l.schedule)) (take l.point-index l.points)
