use Rattle.std.proofs.Common.{◌≡◌, take, map}
use Rattle.af_sched.proofs.state.backfilling.cursors_of.Given as goal

abbrev pub invariant-loop-row : goal.invariant-loop-row
invariant-loop-row l = l.cursors.items ≡ map (λ row. row.cursor) (take l.row-index l.dags)
