use Rattle.std.proofs.Common.{arith}
use Rattle.af_store.specs.ChangeLines.{AreRows}
use Rattle.af_store.proofs.FactLemmas.{all_hold, more_hold}
use Rattle.af_store.proofs.facts.show_rows.Goals as goal

pub loop-row-preserved : goal.loop-row-preserved
loop-row-preserved c =
    more_hold AreRows c.args.rows.now c.loop-row.row-index c.loop-row.invariant c.row-item.result (omega arith) c.row-item.is
    (λ rest. (c.show_name.ensures, rest))

pub returns : goal.returns
returns c = all_hold AreRows c.args.rows.now c.loop-row.row-index c.loop-row.invariant (omega arith) tt
