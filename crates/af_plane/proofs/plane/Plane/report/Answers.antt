use Rattle.std.proofs.Common.{ap, subst}
use Rattle.af_audit.specs.Ledgers.{LedgerRows}
use Rattle.af_audit.specs.Reported.{IsReported}
use Rattle.af_plane.specs.Visits.{PlaneRows}
use Rattle.af_plane.proofs.PlaneLemmas.{report_is}
use Rattle.af_plane.proofs.plane.Plane.report.Goals as goal

pub returns-clause-step : goal.returns-clause-step
returns-clause-step c =
    report_is c.args.self.now.ledger c.report-told.new.self c.args.claim.now c.args.outcome c.args.at c.report-told.result
    (subst (λ (l : LedgerRows). IsReported c.args.at c.args.claim.now c.args.outcome l c.report-told.new.self c.report-told.result) (ap (λ (p : PlaneRows). p.ledger) c.self.view_is) c.report-told.ensures)
