use Rattle.std.proofs.Common.{refl, ap, subst}
use Rattle.std.specs.Prelude.{Some}
use mathlib.Core.List.{IsPrefix}
use Rattle.af_prefixes.proofs.PrefixLemmas.{prefix_self}
use Rattle.af_board.specs.Marks.{Site}
use Rattle.af_plane.specs.Names.{IsNamed}
use Rattle.af_plane.specs.Turns.{IsTurn}
use Rattle.af_plane.specs.Visits.{Visit, SessionRows}
use Rattle.af_plane.proofs.control_session.locked.Locked.read.Goals as goal

pub returns-clause-call : goal.returns-clause-call
returns-clause-call g c =
    let visit_is = ap (λ (v : SessionRows). v.visit) c.session.view_is in
    let named : IsNamed g.N.Named.name c.args.self.now.plane = record { of = c.args.self.now.whose; ledger = c.conditions.ensures.ledger; entries = c.conditions.ensures.entries } in (
      record {
        old = c.args.self.now.plane;
        new = c.args.self.now.plane;
        found = named;
        left = named;
        turn =
            subst (λ (s : Site). IsTurn s c.args.request.now c.args.self.now.plane c.args.session.now.visit (Some c.in-Some.served) c.args.self.now.plane c.read-read.new.session) c.requires.board
            (subst (λ (v : Visit). IsTurn c.args.board.now c.args.request.now c.args.self.now.plane v (Some c.in-Some.served) c.args.self.now.plane c.read-read.new.session) visit_is c.in-Some.ensures.turn);
        plane_longer = prefix_self c.args.self.now.plane.pass.places;
        longer = subst (λ (v : Visit). IsPrefix v.pass.places c.read-read.new.session.pass.places) visit_is c.in-Some.ensures.longer;
      },
      refl,
      refl,
    )
