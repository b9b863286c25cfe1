use Rattle.std.proofs.Common.{◌≡◌, ◌-◌, ◌++◌, take}
use Rattle.af_graph.specs.Schedules.{is_scheduled}
use Rattle.af_sched.specs.Backfills.{points_within}
use Rattle.af_sched.proofs.backfill.first_points.Given as goal

abbrev pub invariant-loop-turn : goal.invariant-loop-turn
invariant-loop-turn l =
    l.points.items ++ take (l.most - l.turn) (points_within (is_scheduled l.schedule) l.from l.last) ≡ take l.most (points_within (is_scheduled l.schedule) l.initial.from l.last)
