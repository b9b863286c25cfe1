use Rattle.af_ops.proofs.TextLemmas.{quoted_put}
use Rattle.af_ops.proofs.fields.put_plain.Goals as goal

pub returns-clause-text : goal.returns-clause-text
returns-clause-text c =
    rw (c.push-3.ensures.items, c.push-2.ensures.items, c.push.ensures.items, c.in_ok-reserve.ensures.items, c.as_bytes.ensures.value)
    (quoted_put c.args.out.now.items c.args.value.now c.requires)
