use Rattle.af_ops.proofs.TextLemmas.{row_put}
use Rattle.af_ops.proofs.row.put_row.Goals as goal

pub returns-clause-text : goal.returns-clause-text
returns-clause-text g c =
    rw (c.push-2.ensures.items, c.in_ok-put_fields.ensures.text, c.push.ensures.items) (row_put c.args.out.now.items (g.R.Row.fields c.args.row.now))
