use Rattle.std.proofs.Common.{◌∙◌}
use Rattle.af_graph.specs.Definition.{has_bad_slots}
use Rattle.af_graph.proofs.PlaceLemmas.{position_is}
use Rattle.af_graph.proofs.wiring.first_bad_slots.Goals as goal

pub returns : goal.returns
returns c = c.position_of_bad_slots.ensures ∙ position_is has_bad_slots c.args.tasks.now
