use Rattle.std.proofs.Common.{rules, ◌∙◌}
use Rattle.std.proofs.lemmas.Grind.{common_steps}
use Rattle.af_names.proofs.IsoformatLemmas.{isoformat_is}
use Rattle.af_names.proofs.instant.Instant.isoformat.Goals as goal

pub returns : goal.returns
returns c =
    search (rules, common_steps)
    ∙ isoformat_is c.args.self.now c.civil.result c.civil.ensures.bound c.civil.ensures.number
