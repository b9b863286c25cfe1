use Rattle.std.proofs.Common.{◌≡◌, ◌-◌, ◌++◌, take}
use Rattle.af_graph.specs.Schedules.{is_scheduled}
use Rattle.af_sched.specs.Due.{due_from}
use Rattle.af_sched.proofs.tick.due.first_points.Given as goal

abbrev pub invariant-loop-turn : goal.invariant-loop-turn
invariant-loop-turn l =
    l.points.items ++ take (16 - l.turn) (due_from (is_scheduled l.schedule) l.from l.at) ≡ take 16 (due_from (is_scheduled l.schedule) l.initial.from l.at)
