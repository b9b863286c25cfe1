use Rattle.std.proofs.Common.{sym}
use Rattle.af_base.proofs.OrderedLemmas.{without_row-none}
use Rattle.af_base.proofs.ordered.Ordered.remove.Goals as goal

pub returns-in-Err-clause-rows : goal.returns-in-Err-clause-rows
returns-in-Err-clause-rows g c = sym (without_row-none _ _ _ _ c.in-Err.ensures)
