use Rattle.std.proofs.Common.{ap, sym, ◌∙◌, rules, None, ℕ}
use Rattle.std.specs.List.{last_or}
use Rattle.af_graph.specs.Schedules.{is_scheduled}
use Rattle.af_sched.proofs.DueLemmas.{none_to, none_earlier, before_cursor, due_last}
use Rattle.af_sched.proofs.tick.due.last_due.Goals as goal

pub returns-in_err-end-clause-due : goal.returns-in_err-end-clause-due
returns-in_err-end-clause-due c =
    c.from_residual.ensures ∙ sym (ap (last_or {A = ℕ} None) (none_to (is_scheduled c.args.schedule.now) c.args.at (search rules) c.args.cursor c.in_err-end.ensures.none))

pub returns-in_err-checked_sub-clause-due : goal.returns-in_err-checked_sub-clause-due
returns-in_err-checked_sub-clause-due c =
    c.from_residual-in_err-checked_sub.ensures
    ∙ sym (ap (last_or {A = ℕ} None) (none_earlier (is_scheduled c.args.schedule.now) c.args.at (search rules) c.args.cursor c.in_ok-end.end c.in_ok-end.ensures.some (λ o point. search rules)))

pub returns-in_err-start-clause-due : goal.returns-in_err-start-clause-due
returns-in_err-start-clause-due c =
    c.from_residual-in_err-start.ensures
    ∙ sym (ap (last_or {A = ℕ} None) (none_earlier (is_scheduled c.args.schedule.now) c.args.at (search rules) c.args.cursor c.in_ok-end.end c.in_ok-end.ensures.some (λ o point. let far = c.in_err-start.ensures.none o point in search rules)))

pub returns-then-gt-clause-due : goal.returns-then-gt-clause-due
returns-then-gt-clause-due c =
    sym (ap (last_or {A = ℕ} None) (before_cursor (is_scheduled c.args.schedule.now) c.args.at (search rules) c.args.cursor c.in_ok-start.start c.in_ok-end.end c.in_ok-end.ensures.some (search rules) (search rules) (search rules)))

pub returns-clause-due : goal.returns-clause-due
returns-clause-due c =
    sym (due_last (is_scheduled c.args.schedule.now) c.args.at (search rules) c.args.cursor c.in_ok-start.start c.in_ok-end.end c.in_ok-end.ensures.some (search rules) (search rules) (search rules))
