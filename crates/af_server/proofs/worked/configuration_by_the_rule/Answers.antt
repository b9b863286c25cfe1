use Rattle.std.proofs.Common.{refl}
use Rattle.hex.proofs.OnLiterals.{hex_on_literals}
use Rattle.serde_json.proofs.OnLiterals.{serde_json_on_literals}
use Rattle.af_graph.specs.Graph.{upstream_rows}
use Rattle.af_graph.specs.Order.{taken_in}
use Rattle.af_policy.specs.Drafts.{opening}
use Rattle.af_server.proofs.worked.configuration_by_the_rule.Goals as goal

pub returns : goal.returns
unfolding serde_json_on_literals hex_on_literals opening taken_in upstream_rows
returns c = refl
