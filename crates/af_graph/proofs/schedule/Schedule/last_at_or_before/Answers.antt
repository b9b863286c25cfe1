use Rattle.af_graph.specs.Schedules.{is_scheduled}
use Rattle.af_graph.proofs.ScheduleLemmas.{last_told}
use Rattle.af_graph.proofs.schedule.Schedule.last_at_or_before.Goals as goal

pub returns-clause-exact : goal.returns-clause-exact
returns-clause-exact c =
    last_told (is_scheduled c.args.self) c.args.to c.last_moment.result c.last_moment.ensures.range c.last_moment.ensures.some c.last_moment.ensures.none
