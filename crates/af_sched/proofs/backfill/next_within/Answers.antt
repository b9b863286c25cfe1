use Rattle.std.proofs.Common.{rules, sym}
use Rattle.af_graph.specs.Schedules.{is_scheduled}
use Rattle.af_sched.proofs.RangeLemmas.{within_first, within_late, within_no_end, within_no_point}
use Rattle.af_sched.proofs.backfill.next_within.Goals as goal

pub returns-in_err-start : goal.returns-in_err-start
returns-in_err-start c =
    rw c.from_residual.ensures (within_no_point (is_scheduled c.args.schedule.now) c.args.first c.args.last c.in_err-start.ensures.none)

pub returns-then-gt : goal.returns-then-gt
returns-then-gt c =
    within_late (is_scheduled c.args.schedule.now) c.args.first c.args.last c.in_ok-start.start c.in_ok-start.ensures.some (search rules)

pub returns-in_err-end : goal.returns-in_err-end
returns-in_err-end c =
    rw c.from_residual-in_err-end.ensures (within_no_end (is_scheduled c.args.schedule.now) c.args.first c.args.last c.in_ok-start.start c.in_ok-start.ensures.some c.in_err-end.ensures.none)

pub returns : goal.returns
returns c =
    (within_first (is_scheduled c.args.schedule.now) c.args.first c.args.last c.in_ok-start.start c.in_ok-end.end c.in_ok-start.ensures.some c.in_ok-end.ensures.some (search rules) (search rules), sym c.in_ok-end.ensures.exact)
