use Rattle.std.proofs.Common.{ap, subst}
use Rattle.af_audit.specs.Claimed.{IsClaimed}
use Rattle.af_audit.specs.Ledgers.{LedgerRows}
use Rattle.af_plane.specs.Visits.{PlaneRows}
use Rattle.af_plane.proofs.PlaneLemmas.{claim_is}
use Rattle.af_plane.proofs.plane.Plane.claim.Goals as goal

pub returns-clause-step : goal.returns-clause-step
returns-clause-step c =
    claim_is c.args.self.now.ledger c.claim-told.new.self c.args.at c.claim-told.result
    (subst (λ (l : LedgerRows). IsClaimed c.args.at l c.claim-told.new.self c.claim-told.result) (ap (λ (p : PlaneRows). p.ledger) c.self.view_is) c.claim-told.ensures)
