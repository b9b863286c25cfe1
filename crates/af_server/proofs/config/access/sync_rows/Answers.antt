use Rattle.std.proofs.Common.{arith}
use Rattle.af_base.proofs.TakingLemmas.{item_taken, items_taken}
use Rattle.af_server.specs.Accesses.{access_taken}
use Rattle.af_server.proofs.config.access.sync_rows.Goals as goal

pub loop-row-preserved : goal.loop-row-preserved
loop-row-preserved c =
    item_taken access_taken c.args.rows.now _ c.loop-row.row-index c.row-item.result c.loop-row.policy c.sync_row.new.policy (omega arith) c.row-item.is c.in_ok-sync_row.ensures c.loop-row.invariant

pub returns : goal.returns
returns c =
    items_taken access_taken c.args.rows.now _ c.loop-row.row-index c.loop-row.policy (omega arith) c.loop-row.invariant
