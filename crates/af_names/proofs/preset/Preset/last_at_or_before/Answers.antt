use Rattle.std.proofs.Common.{◌∙◌}
use Rattle.af_names.specs.Points.{is_point}
use Rattle.af_names.proofs.SearchLemmas.{last_of_is, last_of_none}
use Rattle.af_names.proofs.preset.Preset.last_at_or_before.Goals as goal

pub returns-in_err-point-clause-exact : goal.returns-in_err-point-clause-exact
returns-in_err-point-clause-exact c =
    c.from_residual.ensures
    ∙ last_of_none (is_point c.args.self) c.args.to (rw c.micros.ensures.value at c.in_err-point.ensures.none)

pub returns-clause-exact : goal.returns-clause-exact
returns-clause-exact c =
    last_of_is (is_point c.args.self) c.args.to c.in_ok-point.point c.of_micros.result
    (rw c.micros.ensures.value at c.micros.ensures.bound)
    (rw c.micros.ensures.value at c.in_ok-point.ensures.some)
    c.of_micros.ensures.some c.of_micros.ensures.value
