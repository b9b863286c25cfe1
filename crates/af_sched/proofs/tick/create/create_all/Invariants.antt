use Rattle.std.proofs.Common.{◌≡◌, take, map}
use Rattle.af_runs.specs.Additions.{together}
use Rattle.af_sched.specs.Create.{moved_row}
use Rattle.af_sched.specs.Steps.{TakesRunsOf}
use Rattle.af_sched.proofs.tick.create.create_all.Given as goal

abbrev pub invariant-loop-row : goal.invariant-loop-row
invariant-loop-row l =
    (TakesRunsOf l.at (take l.row-index l.dags) (together l.initial.additions) (together l.additions))
    × (l.additions.before ≡ l.initial.additions.before)
    × (l.cursors.items ≡ map (λ row. (moved_row l.at row).cursor) (take l.row-index l.dags))
