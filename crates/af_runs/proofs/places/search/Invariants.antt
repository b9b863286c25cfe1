use Rattle.std.proofs.Common.{◌≡◌, ◌<◌, ◌≤◌, ◌-◌, ℕ, get_or, length, false}
use Rattle.af_runs.specs.Runs.{is_numbered}
use Rattle.af_runs.specs.declared.run.Run.{Run}
use Rattle.af_runs.proofs.places.search.Given as goal

abbrev pub invariant-loop-low : goal.invariant-loop-low
invariant-loop-low l =
    (l.high ≤ length l.rows)
    × ((k : ℕ) (d : Run) → k < l.low → k < length l.rows → is_numbered l.number (get_or l.rows k d) ≡ false)
    × ((k : ℕ) (d : Run) → l.high ≤ k → k < length l.rows → is_numbered l.number (get_or l.rows k d) ≡ false)

abbrev pub decreases-loop-low : goal.decreases-loop-low
decreases-loop-low l = l.high - l.low
