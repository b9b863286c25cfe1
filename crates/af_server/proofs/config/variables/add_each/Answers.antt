use Rattle.std.proofs.Common.{arith}
use Rattle.af_base.proofs.TakingLemmas.{item_taken, items_taken}
use Rattle.af_server.specs.VariableRows.{variable_taken}
use Rattle.af_server.proofs.config.variables.add_each.Goals as goal

pub loop-row-preserved : goal.loop-row-preserved
loop-row-preserved c =
    item_taken variable_taken c.args.rows.now _ c.loop-row.row-index c.row-item.result c.loop-row.draft c.add_variable.new.draft (omega arith) c.row-item.is c.in_ok-add_variable.ensures c.loop-row.invariant

pub returns : goal.returns
returns c =
    items_taken variable_taken c.args.rows.now _ c.loop-row.row-index c.loop-row.draft (omega arith) c.loop-row.invariant
