use Rattle.std.proofs.Common.{ap, subst, refl, arith}
use Rattle.af_policy.specs.Rows.{PolicyRows}
use Rattle.std.specs.Prelude.{Some}
use Rattle.af_plane.specs.Planes.{Applies}
use Rattle.af_plane.specs.Visits.{PlaneRows}
use Rattle.af_plane.proofs.LookLemmas.{read_turn}
use Rattle.af_plane.proofs.plane.Plane.read.Goals as goal

pub returns-clause-turn : goal.returns-clause-turn
returns-clause-turn c =
    read_turn c.args.board.now c.args.request.now c.args.self.now c.args.session.now c.look.new.self c.in-Ok.found c.shown-served.result
    (record { pass = c.in-Ok.ensures.looked; entries = c.in-Ok.ensures.entries; grounds = c.in-Ok.ensures.grounds })
    c.in-Ok.ensures.last c.in-Ok.ensures.same
    (omega (arith, c.version.ensures, c.version-2.ensures, c.if-version.false, ap (λ (p : PlaneRows). p.ledger.version) c.self.view_is))
    (rw (← c.session.view_is, ← c.self.view_is) (c.if-not-show.ensures.begins refl))
    (subst (λ (p : PolicyRows). Applies p c.args.self.now.ledger c.args.request.now.token c.args.request.now.call c.args.request.now.at (Some c.shown-served.result) c.args.self.now.ledger) c.policy.ensures c.shown-served.ensures)
    c.requires.reads _
    (rw (← c.session.view_is, ← c.self.view_is, c.if-not-show.ensures.shown refl) refl)
