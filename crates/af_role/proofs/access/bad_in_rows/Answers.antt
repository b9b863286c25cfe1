use Rattle.std.proofs.Common.{sym}
use Rattle.af_role.proofs.AccessLemmas.{bad_found, bad_none_more}
use Rattle.af_role.proofs.access.bad_in_rows.Goals as goal

pub returns-in-Some : goal.returns-in-Some
returns-in-Some c =
    sym (bad_found c.args.rows.now c.loop-row.row-index c.row-item.result c.row-item.is c.loop-row-test.true c.loop-row.invariant
    c.in-Some.text.now (sym c.in-Some.ensures))

pub loop-row-preserved : goal.loop-row-preserved
loop-row-preserved c =
    bad_none_more c.args.rows.now c.loop-row.row-index c.row-item.result c.row-item.is c.loop-row-test.true c.loop-row.invariant
    (sym c.in_default.ensures)
