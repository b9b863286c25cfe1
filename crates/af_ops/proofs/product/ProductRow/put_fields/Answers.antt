use Rattle.af_ops.proofs.TextLemmas.{more}
use Rattle.af_ops.proofs.product.ProductRow.put_fields.Goals as goal

pub returns : goal.returns
returns c = more c.in_ok-null.ensures c.in_ok-plain.ensures
