use Rattle.std.proofs.Common.{◌∙◌, inr, refl, sym, [], true, false}
use Rattle.af_http.specs.Reading.{refusal_text, status_of}
use Rattle.af_http.specs.declared.ended.Ended.TheVariants as end
use Rattle.af_http.specs.declared.gathering.BodyGathered.TheVariants as body
use Rattle.af_http.specs.declared.refusal.Refusal.TheVariants.{Incomplete}
use Rattle.std.proofs.Common.{Some}
use Rattle.af_http.proofs.SendLemmas.{put_nothing}
use Rattle.af_http.proofs.StopLemmas.{body_awaits, body_stops, never_short, or_fine, write_stops}
use Rattle.af_http.proofs.TurnLemmas.{message_turn}
use Rattle.af_http.proofs.turn.serve_body.Goals as goal

pub returns-then-has_failed : goal.returns-then-has_failed
returns-then-has_failed g c =
    inr (write_stops c.args.turn.used _ _ c.args.connection.now.incoming _ _ c.requires.used refl c.flush.ensures.sent (sym c.has_failed.ensures ∙ c.if-has_failed.true), refl)

pub returns-in-Cut : goal.returns-in-Cut
returns-in-Cut g c =
    let h = c.gather_body-found.ensures in
    let w = c.args.wanted in
    inr (
      body_stops c.args.turn.used _ _ c.args.connection.now.incoming c.gather_body-found.new.incoming _ _ _ w.size w.length c.gather_body-found.result.1 w.head_only body.Cut true
          (refusal_text (Incomplete w.head_only)) (end.Refused (status_of (Incomplete w.head_only))) c.end_refused.result
          h.came c.requires.head c.requires.body (rw c.in-Cut.is at h.found) (rw c.in-Cut.is at h.took) h.few refl refl
          (λ text cut. (Incomplete w.head_only, inr (inr (inr (w.head_only, cut, refl))), refl, refl, refl)) c.flush.ensures.sent c.end_refused.ensures.put c.end_refused.ensures.ends (λ e. cc),
      refl,
    )

pub returns-in-ReadFailed : goal.returns-in-ReadFailed
returns-in-ReadFailed g c =
    let h = c.gather_body-found.ensures in
    let w = c.args.wanted in
    let sound = sym c.has_failed.ensures ∙ c.if-has_failed.false in
    inr (
      body_stops c.args.turn.used _ _ c.args.connection.now.incoming c.gather_body-found.new.incoming _ _ _ w.size w.length c.gather_body-found.result.1 w.head_only body.ReadFailed false
          [] end.ReadFault (Some end.ReadFault)
          h.came c.requires.head c.requires.body (rw c.in-ReadFailed.is at h.found) (rw c.in-ReadFailed.is at h.took) h.few refl refl
          (λ text cut. (inr (inr (w.head_only, cut)), refl, refl, c.flush.ensures.none_waits sound, sound)) c.flush.ensures.sent (put_nothing _) (or_fine _ _ sound) (λ e. cc),
      refl,
    )

pub returns-in-Turns : goal.returns-in-Turns
returns-in-Turns g c =
    let h = c.gather_body-found.ensures in
    let w = c.args.wanted in
    let sound = sym c.has_failed.ensures ∙ c.if-has_failed.false in
    inr (
      body_stops c.args.turn.used _ _ c.args.connection.now.incoming c.gather_body-found.new.incoming _ _ _ w.size w.length c.gather_body-found.result.1 w.head_only body.Turns false
          [] end.Turns (Some end.Turns)
          h.came c.requires.head c.requires.body (rw c.in-Turns.is at h.found) (rw c.in-Turns.is at h.took) h.few refl refl
          (λ text cut. (inr (inr (w.head_only, cut)), refl, refl)) c.flush.ensures.sent (put_nothing _) (or_fine _ _ sound) (λ e. h.turns c.in-Turns.is),
      refl,
    )

pub returns-in-Whole : goal.returns-in-Whole
returns-in-Whole g c =
    let h = c.gather_body-found.ensures in
    let w = c.args.wanted in
    let e = c.answer_whole.ensures in
    let sound = sym c.has_failed.ensures ∙ c.if-has_failed.false in
    let awaits = body_awaits c.args.turn.used _ _ c.args.connection.now.incoming c.gather_body-found.new.incoming h.came.0 w.size w.length c.gather_body-found.result.1 w.head_only
    h.came.1 h.came.2 c.requires.head c.requires.body (rw c.in-Whole.is at h.took) h.few in
    rw e.2 (
    message_turn g.S.Service.answers c.args.turn.used c.args.turn.count c.args.service.now _ _ c.args.connection.now.incoming h.came.0 c.gather_body-found.new.incoming _ _ _ c.answer_whole.new.service
    w.size e.0 c.answer_whole.result c.requires.head h.came.1.kept awaits c.flush.ensures.sent sound e.1
    )

pub answer_whole-requires-clause-whole : goal.answer_whole-requires-clause-whole
answer_whole-requires-clause-whole g c =
    let h = c.gather_body-found.ensures in
    let w = c.args.wanted in
    λ n again s.
    never_short c.args.connection.now.incoming h.came.0 c.gather_body-found.new.incoming w.size w.length n w.head_only again
    c.requires.head h.came.1.kept c.requires.body (rw c.in-Whole.is at h.found) s
