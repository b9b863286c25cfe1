use Rattle.std.proofs.Common.{◌≡◌, rules, List, Option, ℕ}
use Rattle.af_sched.specs.Plan.{with_cursors}
use Rattle.af_sched.specs.declared.dag_row.DagRow.{DagRow}
use Rattle.af_sched.proofs.LikeLemmas.{AreRows-same, alike_with, same_dags}
use Rattle.af_sched.proofs.state.State.commit.Goals as goal

pub invariant_of-self : goal.invariant_of-self
invariant_of-self c =
    let fits = rw (← c.self.view_is, ← c.plan.view_is) at c.requires.fits in
    let old : List DagRow = c.self.inside.dags in
    let cursors : List (Option ℕ) = c.plan.inside.cursors.items in
    let is : c.set_cursors.new.self ≡ with_cursors old cursors = search rules in
    rw (is, c.append.ensures.rows, c.advance_all.ensures)
    (AreRows-same old (with_cursors old cursors) c.self.inside.runs.rows _ (same_dags old (with_cursors old cursors) (alike_with old cursors fits.count)) fits.whole c.self.invariant)
