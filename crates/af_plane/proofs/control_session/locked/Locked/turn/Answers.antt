use Rattle.std.proofs.Common.{◌∙◌, refl, ap, subst}
use Rattle.std.specs.Prelude.{Some}
use mathlib.Core.List.{IsPrefix}
use Rattle.af_board.specs.Marks.{Site}
use Rattle.af_plane.specs.Turns.{IsTurn}
use Rattle.af_plane.specs.Visits.{Visit, SessionRows}
use Rattle.af_plane.proofs.CallLemmas.{turned_alike}
use Rattle.af_plane.proofs.control_session.locked.Locked.turn.Goals as goal

pub invariant_of-self : goal.invariant_of-self
invariant_of-self g c =
    let alike = turned_alike c.args.board.now c.args.request.now c.args.self.now.plane c.turn-turn.new.self c.session.inside.session c.turn-turn.new.session c.turn-turn.result c.turn-turn.ensures.turn in
    record {
      whose = (
        c.turn-turn.ensures.over.word ∙ ap (λ (s : Site). s.word) c.requires.board,
        c.turn-turn.ensures.over.keeper ∙ c.args.self.now.whose.1,
        alike.0 ∙ c.args.self.now.whose.2,
        alike.1 ∙ c.args.self.now.whose.3,
      );
    }

pub returns-clause-call : goal.returns-clause-call
returns-clause-call g c =
    let alike = turned_alike c.args.board.now c.args.request.now c.args.self.now.plane c.turn-turn.new.self c.session.inside.session c.turn-turn.new.session c.turn-turn.result c.turn-turn.ensures.turn in
    let visit_is = ap (λ (v : SessionRows). v.visit) c.session.view_is in (
      record {
        old = c.args.self.now.plane;
        new = c.turn-turn.new.self;
        found = record { of = c.args.self.now.whose; ledger = c.conditions.ensures.ledger; entries = c.conditions.ensures.entries };
        left = record {
          of = (
            c.turn-turn.ensures.over.word ∙ ap (λ (s : Site). s.word) c.requires.board,
            c.turn-turn.ensures.over.keeper ∙ c.args.self.now.whose.1,
            alike.0 ∙ c.args.self.now.whose.2,
            alike.1 ∙ c.args.self.now.whose.3,
          );
          ledger = c.conditions-2.ensures.ledger;
          entries = c.conditions-2.ensures.entries;
        };
        turn =
            subst (λ (s : Site). IsTurn s c.args.request.now c.args.self.now.plane c.args.session.now.visit (Some c.in-Some.served) c.turn-turn.new.self c.turn-turn.new.session) c.requires.board
            (subst (λ (v : Visit). IsTurn c.args.board.now c.args.request.now c.args.self.now.plane v (Some c.in-Some.served) c.turn-turn.new.self c.turn-turn.new.session) visit_is c.in-Some.ensures.turn);
        plane_longer = c.turn-turn.ensures.plane_longer;
        longer = subst (λ (v : Visit). IsPrefix v.pass.places c.turn-turn.new.session.pass.places) visit_is c.turn-turn.ensures.session_longer;
      },
      refl,
      refl,
    )
