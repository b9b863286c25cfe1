use Rattle.std.proofs.Common.{◌≡◌, refl, rules}
use Rattle.std.specs.Prelude.{Some}
use Rattle.af_graph.specs.Schedules.{is_scheduled}
use Rattle.af_sched.specs.Backfills.{backfill_runs}
use Rattle.af_sched.specs.State.{dag_of}
use Rattle.af_sched.specs.declared.dag_row.DagRow.{DagRow}
use Rattle.af_ops.specs.Effects.{may_make}
use Rattle.af_ops.proofs.BackfillLemmas.{would_change}
use Rattle.af_ops.proofs.operations.backfilling.would_backfill.Goals as goal

pub returns-in-Some-count_free : goal.returns-in-Some-count_free
returns-in-Some-count_free c =
    let row : DagRow = c.in-Some.row.now in
    let found : dag_of c.args.state.now.rows.dags c.args.dag_id.now ≡ Some row = search rules in
    would_change (may_make c.args.state.now.rows row.dag.dag_id (backfill_runs row.dag (is_scheduled c.in-Some-schedule.schedule) c.args.asked.now.start_date c.args.asked.now.end_date))
    c.args.state.now.rows c.args.dag_id.now c.args.asked.now row c.in-Some-schedule.schedule c.in-Some-count_free.count refl found (search rules) (search rules)
