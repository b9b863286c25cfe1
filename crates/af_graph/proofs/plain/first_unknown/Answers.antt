use Rattle.std.proofs.Common.{◌∙◌}
use Rattle.af_graph.specs.Definition.{names_nobody}
use Rattle.af_graph.proofs.PlaceLemmas.{position_is}
use Rattle.af_graph.proofs.plain.first_unknown.Goals as goal

pub returns : goal.returns
returns c = c.position_of_unknown.ensures ∙ position_is (names_nobody c.args.tasks.now) c.args.tasks.now
