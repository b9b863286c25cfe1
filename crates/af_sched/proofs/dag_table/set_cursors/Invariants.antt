use Rattle.std.proofs.Common.{◌≡◌, ◌<◌, ◌≤◌, ℕ, get_or}
use Rattle.std.specs.Prelude.{None}
use Rattle.af_sched.specs.declared.dag_row.DagRow.{DagRow}
use Rattle.af_sched.proofs.dag_table.set_cursors.Given as goal

abbrev pub invariant-loop-place : goal.invariant-loop-place
invariant-loop-place l =
    ((k : ℕ) (d : DagRow) → k < l.place → get_or l.dags k d ≡ record (get_or l.initial.dags k d) { cursor = get_or l.cursors k None })
    × ((k : ℕ) (d : DagRow) → l.place ≤ k → get_or l.dags k d ≡ get_or l.initial.dags k d)
