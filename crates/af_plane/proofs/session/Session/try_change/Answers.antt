use Rattle.std.proofs.Common.{◌∙◌, ap, arith, subst, sym}
use Rattle.std.specs.Prelude.{IfSome, Ok}
use Rattle.std.specs.Option.{option_copied}
use mathlib.Core.List.{IsPrefix}
use Rattle.af_word.specs.Places.{Sight}
use Rattle.af_board.specs.Faults.{mark_of}
use Rattle.af_plane.specs.declared.grounds.Grounds.{Grounds}
use Rattle.af_plane.specs.Looks.{HasSame}
use Rattle.af_plane.specs.Visits.{Visit}
use Rattle.af_plane.proofs.SessionLemmas.{refused_given, refused_on}
use Rattle.af_plane.proofs.session.Session.try_change.Goals as goal

pub returns-in_ok-refuse-in-Err-clause-on : goal.returns-in_ok-refuse-in-Err-clause-on
returns-in_ok-refuse-in-Err-clause-on g c =
    refused_on c.args.board.now c.args.self.now c.refuse.new.self (ap (λ (p : Sight). p.word) c.refuse.ensures.pass ∙ c.draft.ensures.looked.word ∙ ap (λ (v : Visit). v.pass.word) c.self.view_is ∙ c.requires.word)
    (option_copied c.args.token) c.args.ask.now c.in-Err.fault (Ok _) c.requires
    (subst (λ (p : Sight). IsPrefix c.args.self.now.pass.places p.places) (sym c.refuse.ensures.pass)
    (subst (λ (p : Sight). IsPrefix p.places c.draft.new.pass.places) (ap (λ (v : Visit). v.pass) c.self.view_is) c.draft.ensures.looked.longer))
    (c.in_ok-refuse-in-Err.ensures.given c.args.board.now (option_copied c.args.token) c.in-Err.ensures.err)
    tt

pub returns-in_ok-refuse-in-Err-clause-given : goal.returns-in_ok-refuse-in-Err-clause-given
returns-in_ok-refuse-in-Err-clause-given g c =
    refused_given c.args.board.now c.args.self.now c.refuse.new.self (ap (λ (p : Sight). p.word) c.refuse.ensures.pass ∙ c.draft.ensures.looked.word ∙ ap (λ (v : Visit). v.pass.word) c.self.view_is ∙ c.requires.word)
    (option_copied c.args.token) c.args.ask.now c.in-Err.fault (Ok _)
    (subst (λ (p : Sight). IsPrefix c.args.self.now.pass.places p.places) (sym c.refuse.ensures.pass)
    (subst (λ (p : Sight). IsPrefix p.places c.draft.new.pass.places) (ap (λ (v : Visit). v.pass) c.self.view_is) c.draft.ensures.looked.longer))
    (omega (arith, ap (λ (p : Sight). p.deeds) c.refuse.ensures.pass, c.draft.ensures.looked.done, ap (λ (v : Visit). v.pass.deeds) c.self.view_is))
    (omega (arith, ap (λ (p : Sight). p.steps) c.refuse.ensures.pass, c.draft.ensures.looked.stepped, ap (λ (v : Visit). v.pass.steps) c.self.view_is))
    (subst (λ (v : Grounds). IfSome (mark_of c.in-Err.fault) (λ m. HasSame c.args.board.now v m)) (ap (λ (v : Visit). v.grounds) c.self.view_is) c.compare_base.ensures)
    (c.in_ok-refuse-in-Err.ensures.given c.args.board.now (option_copied c.args.token) c.in-Err.ensures.err)
