use Rattle.std.proofs.Common.{◌∙◌, ap, Some, Option, ℕ}
use Rattle.std.specs.Option.{option_map_or}
use Rattle.af_graph.specs.Schedules.{is_scheduled}
use Rattle.af_sched.specs.Due.{next_after}
use Rattle.af_sched.proofs.DueLemmas.{last_is}
use Rattle.af_sched.proofs.tick.due.moved_cursor.Goals as goal

pub returns-in-Some : goal.returns-in-Some
returns-in-Some c =
    c.next_after.ensures.exact
    ∙ ap (λ (o : Option ℕ). option_map_or (next_after (is_scheduled c.args.schedule.now)) o (Some c.args.cursor)) (c.in-Some.ensures.value ∙ last_is c.args.taken.now)
