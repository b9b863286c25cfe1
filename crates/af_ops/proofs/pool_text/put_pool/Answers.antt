use Rattle.af_ops.proofs.TextLemmas.{more}
use Rattle.af_ops.proofs.pool_text.put_pool.Goals as goal

pub returns : goal.returns
returns c =
    rw (← c.open_beside.ensures, ← c.occupied_by.ensures, ← c.from.ensures)
    (more (more (more (more (more c.in_ok-text.ensures c.in_ok-wide.ensures) c.in_ok-wide-2.ensures) c.in_ok-number.ensures) c.in_ok-number-2.ensures) c.in_ok-number-3.ensures)
