use Rattle.af_ops.proofs.TextLemmas.{more}
use Rattle.af_ops.proofs.me_text.put_sync.Goals as goal

pub returns : goal.returns
returns c = more c.in_ok-text.ensures c.in_ok-number.ensures
