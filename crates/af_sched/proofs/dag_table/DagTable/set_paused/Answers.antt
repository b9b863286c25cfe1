use Rattle.std.proofs.Common.{sym}
use Rattle.af_sched.proofs.HeavyLemmas.{none_heavier_same}
use Rattle.af_sched.proofs.LikeLemmas.{same_paused}
use Rattle.af_sched.proofs.StandingLemmas.{with_paused-is_set, with_paused-same}
use Rattle.af_sched.proofs.dag_table.DagTable.set_paused.Goals as goal

pub invariant_of-self : goal.invariant_of-self
invariant_of-self c =
    let stands = rw (c.by_id.ensures, ← c.self.view_is) at c.in-Ok.ensures in
    rw (c.index_mut.ensures.value, ← with_paused-is_set _ _ _ stands c.args.is_paused _)
    (none_heavier_same _ _ _ (same_paused c.self.inside.rows.items c.args.dag_id.now c.args.is_paused) c.self.invariant)

pub returns-in-Ok : goal.returns-in-Ok
returns-in-Ok c =
    let stands = rw (c.by_id.ensures, ← c.self.view_is) at c.in-Ok.ensures in
    rw (← c.self.view_is, c.index_mut.ensures.value) (sym (with_paused-is_set _ _ _ stands c.args.is_paused _))

pub returns-in_default : goal.returns-in_default
returns-in_default c =
    let absent = rw (c.by_id.ensures) at c.in_default.ensures.absent in
    sym (with_paused-same c.args.self.now c.args.dag_id.now absent c.args.is_paused)
