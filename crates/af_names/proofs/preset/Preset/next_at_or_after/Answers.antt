use Rattle.af_names.specs.Points.{is_point}
use Rattle.af_names.proofs.SearchLemmas.{next_of_is}
use Rattle.af_names.proofs.preset.Preset.next_at_or_after.Goals as goal

pub returns-clause-exact : goal.returns-clause-exact
returns-clause-exact c =
    next_of_is (is_point c.args.self) c.args.from c.next_point.result c.of_micros.result
    (rw c.micros.ensures.value at c.micros.ensures.bound)
    (rw c.micros.ensures.value at c.next_point.ensures)
    c.of_micros.ensures.some c.of_micros.ensures.value
