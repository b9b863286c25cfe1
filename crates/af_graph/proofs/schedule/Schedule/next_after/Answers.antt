use Rattle.std.proofs.Common.{◌∙◌, ◌+◌, ◌<◌, inl, inr}
use Rattle.std.proofs.lemmas.Bool.{cases_lt, false≢true}
use Rattle.af_names.specs.Instants.{last_micros}
use Rattle.af_graph.specs.Schedules.{is_scheduled}
use Rattle.af_graph.proofs.ScheduleLemmas.{next_past}
use Rattle.af_graph.proofs.schedule.Schedule.next_after.Goals as goal

pub returns-in_err-later-clause-exact : goal.returns-in_err-later-clause-exact
returns-in_err-later-clause-exact c =
    let some = rw c.micros.ensures.value at c.in_err-later.ensures.some in
    let past : last_micros < c.args.moment + 1 =
    elim (cases_lt last_micros (c.args.moment + 1)) [ inl lt ↦ lt | inr le ↦ absurd (false≢true (some.1 le)) ] in
    c.from_residual.ensures ∙ next_past (is_scheduled c.args.self) (c.args.moment + 1) past
