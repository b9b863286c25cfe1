use Rattle.std.proofs.Common.{ap, subst}
use Rattle.af_audit.specs.Ledgers.{LedgerRows}
use Rattle.af_audit.specs.Ticked.{IsTicked}
use Rattle.af_plane.specs.Visits.{PlaneRows}
use Rattle.af_plane.proofs.PlaneLemmas.{tick_is}
use Rattle.af_plane.proofs.plane.Plane.tick.Goals as goal

pub returns-clause-step : goal.returns-clause-step
returns-clause-step c =
    tick_is c.args.self.now.ledger c.tick-told.new.self c.args.at c.tick-told.result
    (subst (λ (l : LedgerRows). IsTicked c.args.at l c.tick-told.new.self c.tick-told.result) (ap (λ (p : PlaneRows). p.ledger) c.self.view_is) c.tick-told.ensures)
