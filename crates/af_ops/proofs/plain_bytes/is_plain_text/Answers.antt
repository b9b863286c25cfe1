use Rattle.af_ops.proofs.PlainLemmas.{certain}
use Rattle.af_ops.proofs.plain_bytes.is_plain_text.Goals as goal

pub returns-then-text-ge16 : goal.returns-then-text-ge16
returns-then-text-ge16 c = certain c.plain_long.result c.args.text.now c.plain_long.ensures

pub returns-else-text-ge16 : goal.returns-else-text-ge16
returns-else-text-ge16 c = certain c.plain_short.result c.args.text.now c.plain_short.ensures
