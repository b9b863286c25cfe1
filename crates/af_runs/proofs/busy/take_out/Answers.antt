use Rattle.std.proofs.Common.{rules, not, ◌==◌}
use Rattle.std.proofs.lemmas.Fn.{filter_same}
use Rattle.af_runs.proofs.busy.take_out.Goals as goal

pub returns-clause-numbers : goal.returns-clause-numbers
returns-clause-numbers c = filter_same _ (λ other. not (other == c.args.number)) _ (λ x b f k. search rules) _ _ c.retain.ensures.filtered
