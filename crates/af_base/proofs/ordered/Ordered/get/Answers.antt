use Rattle.std.proofs.Common.{ap}
use Rattle.std.specs.Prelude.{Some}
use Rattle.af_base.proofs.OrderedLemmas.{row_of-is}
use Rattle.af_base.proofs.ordered.Ordered.get.Goals as goal

pub returns-in-Ok : goal.returns-in-Ok
returns-in-Ok g c =
    let stands = rw (← c.self.view_is) at c.in-Ok.ensures in
    rw (← c.self.view_is, row_of-is _ _ _ _ stands c.index.result.now) (ap Some c.index.ensures)
