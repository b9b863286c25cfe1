use Rattle.std.proofs.Common.{[]}
use Rattle.af_ops.proofs.TextLemmas.{row_put, more}
use Rattle.af_ops.proofs.row.rows_text.Goals as goal

pub returns : goal.returns
returns g c =
    let added = more c.in_ok-each_row.ensures c.in_ok-number.ensures in
    rw (c.into_bytes.ensures, c.push-2.ensures.items, added.text, c.push.ensures.items, c.in_ok-out.ensures.items) (row_put [] _)
