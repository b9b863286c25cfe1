use Rattle.std.proofs.Common.{◌≡◌, ◌<◌, ◌≤◌, ℕ, get_or}
use Rattle.af_runs.specs.declared.run.Run.{Run}
use Rattle.af_sched.specs.Settle.{SettlesIfLive}
use Rattle.af_sched.proofs.tick.settle.settle_all.Given as goal

abbrev pub invariant-loop-run : goal.invariant-loop-run
invariant-loop-run l =
    ((k : ℕ) (d : Run) → k < l.run-index → SettlesIfLive l.at l.dags (get_or l.initial.runs k d) (get_or l.runs k d))
    × ((k : ℕ) (d : Run) → l.run-index ≤ k → get_or l.runs k d ≡ get_or l.initial.runs k d)
