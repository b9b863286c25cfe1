use Rattle.af_graph.specs.Schedules.{is_scheduled}
use Rattle.af_graph.proofs.ScheduleLemmas.{next_told}
use Rattle.af_graph.proofs.schedule.Schedule.next_at_or_after.Goals as goal

pub returns-clause-exact : goal.returns-clause-exact
returns-clause-exact c =
    let range = c.next_moment.ensures.range in
    next_told (is_scheduled c.args.self) c.args.from c.next_moment.result range.0 c.next_moment.ensures.some range.1 c.next_moment.ensures.none
