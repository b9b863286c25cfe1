use Rattle.std.proofs.Common.{◌∙◌, ap, subst}
use mathlib.Core.List.{IsPrefix}
use Rattle.af_word.specs.Places.{Sight}
use Rattle.af_plane.specs.declared.grounds.Grounds.TheVariants as grounds
use Rattle.af_plane.specs.Visits.{Visit}
use Rattle.af_plane.proofs.SessionLemmas.{overtaken_in, overtaken_on, still_on}
use Rattle.af_plane.proofs.session.Session.publish.Goals as goal

pub returns-in-Err-clause-on : goal.returns-in-Err-clause-on
returns-in-Err-clause-on c =
    still_on c.args.board.now c.args.self.now (record { pass = c.publish.new.pass; entries = c.self.inside.witness; grounds = c.self.inside.grounds })
    (c.in-Err.ensures.looked.word ∙ ap (λ (v : Visit). v.pass.word) c.self.view_is ∙ c.requires.on.word) c.requires.on
    (subst (λ (p : Sight). IsPrefix p.places c.publish.new.pass.places) (ap (λ (v : Visit). v.pass) c.self.view_is) c.in-Err.ensures.looked.longer)
    (ap (λ (v : Visit). v.grounds) c.self.view_is)

pub returns-in-Err-2-clause-on : goal.returns-in-Err-2-clause-on
returns-in-Err-2-clause-on c =
    overtaken_on c.args.board.now c.args.draft c.args.self.now (record { pass = c.publish.new.pass; entries = c.self.inside.witness; grounds = grounds.Overtaken c.again-base.result }) c.in-Err.field-0 c.requires.last
    (subst (λ (p : Sight). IsPrefix p.places c.publish.new.pass.places) (ap (λ (v : Visit). v.pass) c.self.view_is) c.in-Err.ensures.looked.longer)
    (ap grounds.Overtaken (c.again-base.ensures ∙ c.base.ensures)) (c.in-Err.ensures.looked.word ∙ ap (λ (v : Visit). v.pass.word) c.self.view_is ∙ c.requires.on.word)

pub returns-in-Err-2-clause-given : goal.returns-in-Err-2-clause-given
returns-in-Err-2-clause-given c token author =
    overtaken_in c.args.board.now c.args.draft c.args.self.now (record { pass = c.publish.new.pass; entries = c.self.inside.witness; grounds = grounds.Overtaken c.again-base.result }) c.in-Err.field-0 c.requires.last
    (subst (λ (p : Sight). IsPrefix p.places c.publish.new.pass.places) (ap (λ (v : Visit). v.pass) c.self.view_is) c.in-Err.ensures.looked.longer)
    (ap grounds.Overtaken (c.again-base.ensures ∙ c.base.ensures))
    token c.args.ask.now c.serve_fault.result c.seen-version.result.0 c.requires.draft c.requires.change author c.in-Err.ensures.err c.seen-version.ensures.version c.serve_fault.ensures
