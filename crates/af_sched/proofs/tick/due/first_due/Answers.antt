use Rattle.std.proofs.Common.{rules}
use Rattle.af_graph.specs.Schedules.{is_scheduled}
use Rattle.af_sched.proofs.DueLemmas.{no_point, no_end, ends_late, due_first}
use Rattle.af_sched.proofs.tick.due.first_due.Goals as goal

pub returns-in_err-start-clause-due : goal.returns-in_err-start-clause-due
returns-in_err-start-clause-due c =
    rw c.from_residual.ensures (no_point (is_scheduled c.args.schedule.now) c.args.at (search rules) c.args.from c.in_err-start.ensures.none)

pub returns-in_err-end-clause-due : goal.returns-in_err-end-clause-due
returns-in_err-end-clause-due c =
    rw c.from_residual-in_err-end.ensures (no_end (is_scheduled c.args.schedule.now) c.args.at (search rules) c.args.from c.in_ok-start.start c.in_ok-start.ensures.some c.in_err-end.ensures.none)

pub returns-then-gt-clause-due : goal.returns-then-gt-clause-due
returns-then-gt-clause-due c =
    ends_late (is_scheduled c.args.schedule.now) c.args.at (search rules) c.args.from c.in_ok-start.start c.in_ok-end.end c.in_ok-start.ensures.some c.in_ok-end.ensures.some (search rules)

pub returns-clause-due : goal.returns-clause-due
returns-clause-due c =
    due_first (is_scheduled c.args.schedule.now) c.args.at (search rules) c.args.from c.in_ok-start.start c.in_ok-end.end c.in_ok-start.ensures.some c.in_ok-end.ensures.some (search rules)
