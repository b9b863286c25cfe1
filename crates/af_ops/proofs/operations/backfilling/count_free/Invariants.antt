use Rattle.af_graph.specs.Schedules.{is_scheduled}
use Rattle.af_ops.proofs.BackfillLemmas.{Counted}
use Rattle.af_ops.proofs.operations.backfilling.count_free.Given as goal

abbrev pub invariant-loop-turn : goal.invariant-loop-turn
invariant-loop-turn l = Counted l.state.rows l.dag (is_scheduled l.schedule) l.fn.first l.from l.last l.turn l.free
