use Rattle.af_policy.specs.SharedRows.{seen}
use Rattle.af_policy.proofs.ShownLemmas.{filled_next}
use Rattle.af_policy.proofs.shared.listing.fill_all.Goals as goal

pub loop-row-preserved : goal.loop-row-preserved
loop-row-preserved g c =
    filled_next c.args.bound (seen c.args.into.now.items) (seen c.loop-row.into.items) (seen c.fill_one.new.into.items)
    c.args.rows.now c.loop-row.row-index c.row-item.result c.row-item.is c.loop-row-test.true
    c.loop-row.invariant c.in_ok-fill_one.ensures
