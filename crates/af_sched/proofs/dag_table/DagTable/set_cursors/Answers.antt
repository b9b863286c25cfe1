use Rattle.std.proofs.Common.{◌≡◌, sym, subst, rules, length, List, drop}
use Rattle.af_sched.specs.Plan.{with_cursors}
use Rattle.af_sched.specs.declared.dag_row.DagRow.{DagRow}
use Rattle.af_sched.proofs.HeavyLemmas.{none_heavier_same}
use Rattle.af_sched.proofs.LikeLemmas.{Alike, alike_with, front, same_dags}
use Rattle.af_sched.proofs.dag_table.DagTable.set_cursors.Goals as goal

pub invariant_of-self : goal.invariant_of-self
invariant_of-self c =
    let count = rw (← c.self.view_is) at c.requires in
    let old : List DagRow = c.self.inside.rows.items in
    let new : List DagRow = c.set_cursors.new.dags in
    let is : new ≡ with_cursors old c.args.cursors.now = search rules in
    let long : c.self.inside.rows.len ≡ length new = search rules in
    rw (front c.self.inside.rows.len new (drop (length new) old) long)
    (none_heavier_same c.self.inside.heaviest old new (same_dags old new (subst (Alike old) (sym is) (alike_with old c.args.cursors.now count))) c.self.invariant)
