use Rattle.std.proofs.Common.{refl}
use Rattle.std.specs.Fmt.{digits}
use Rattle.json.specs.Print.{escape_byte}
use Rattle.af_graph.specs.Graph.{downstream_rows}
use Rattle.af_ops.proofs.worked.tasks_by_the_rule.Goals as goal

pub returns-clause-listed : goal.returns-clause-listed
unfolding downstream_rows
returns-clause-listed c = refl

pub returns-clause-told : goal.returns-clause-told
unfolding digits escape_byte downstream_rows
returns-clause-told c = refl
