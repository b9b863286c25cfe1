use Rattle.std.proofs.Common.{◌∙◌, sym, ap, ℕ, List}
use Rattle.af_graph.specs.Schedules.{is_scheduled}
use Rattle.af_runs.specs.Runs.{has_room}
use Rattle.af_sched.specs.Backfills.{backfill_runs}
use Rattle.af_ops.proofs.BackfillLemmas.{may_counted, may_many}
use Rattle.af_ops.proofs.operations.backfilling.may_make.Goals as goal

pub returns-in-Some : goal.returns-in-Some
returns-in-Some c =
    c.has_room.ensures
    ∙ ap (λ (id : List ℕ). has_room c.args.state.now.rows.runs c.args.state.now.rows.next_run id c.in-Some.count) c.dag_id.ensures
    ∙ may_counted c.args.state.now.rows c.args.dag.now.dag_id (backfill_runs c.args.dag.now (is_scheduled c.args.schedule.now) c.args.asked.now.start_date c.args.asked.now.end_date) c.in-Some.count (sym c.in-Some.is ∙ c.count_free.ensures)

pub returns-in-None : goal.returns-in-None
returns-in-None c =
    may_many c.args.state.now.rows c.args.dag.now.dag_id (backfill_runs c.args.dag.now (is_scheduled c.args.schedule.now) c.args.asked.now.start_date c.args.asked.now.end_date) (sym c.in-None.is ∙ c.count_free.ensures)
