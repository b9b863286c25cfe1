use Rattle.std.proofs.Common.{ap, subst}
use mathlib.Core.List.{IsPrefix}
use Rattle.af_plane.specs.Visits.{SoloRows, Visit}
use Rattle.af_plane.proofs.solo.Solo.take_turn.Goals as goal

pub returns-clause-longer : goal.returns-clause-longer
returns-clause-longer c =
    subst (λ (v : Visit). IsPrefix v.pass.places c.turn-turn.new.session.pass.places) (ap (λ (s : SoloRows). s.session) c.self.view_is) c.turn-turn.ensures.session_longer
