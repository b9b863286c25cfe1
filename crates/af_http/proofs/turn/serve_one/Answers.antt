use Rattle.std.proofs.Common.{refl, inr, arith, ap, ◌∙◌, Some}
use Rattle.af_http.proofs.TurnLemmas.{turned_after}
use Rattle.af_http.proofs.StopLemmas.{large_stops, incomplete_stops, closed_stops, fault_stops, turns_stops, write_stops}
use Rattle.af_http.proofs.turn.serve_one.Goals as goal

pub returns-in-Head : goal.returns-in-Head
returns-in-Head g c =
    let h = c.next_head-found.ensures in
    let s = c.in-Head in
    let is = c.in-Some.is ∙ ap Some s.is in
    turned_after g.S.Service.answers c.next_head-found.result.1 c.args.count c.args.service.now _ _ _ c.args.connection.now.incoming c.next_head-found.new.connection.incoming _ _ _ _ c.serve_message.new.service
    s.size c.serve_message.result (rw is at h.holds) h.flushed (rw is at h.sound) c.serve_message.ensures

pub returns-in-Large : goal.returns-in-Large
returns-in-Large g c =
    let h = c.next_head-found.ensures in
    let s = c.in-Large in
    let is = c.in-Some.is ∙ ap Some s.is in
    inr (
      large_stops _ _ c.args.connection.now.incoming c.next_head-found.new.connection.incoming _ _ _ _ c.end_refused.result
          (rw is at h.holds) (rw is at h.found) h.flushed c.end_refused.ensures.put c.end_refused.ensures.ends,
      refl,
    )

pub returns-in-Incomplete : goal.returns-in-Incomplete
returns-in-Incomplete g c =
    let h = c.next_head-found.ensures in
    let s = c.in-Incomplete in
    let is = c.in-Some.is ∙ ap Some s.is in
    let r = c.end_refused-in-Incomplete in
    inr (
      incomplete_stops _ _ c.args.connection.now.incoming c.next_head-found.new.connection.incoming _ _ _ _ r.result
          (rw is at h.holds) (rw is at h.found) h.flushed r.ensures.put r.ensures.ends,
      refl,
    )

pub returns-in-Closed : goal.returns-in-Closed
returns-in-Closed g c =
    let h = c.next_head-found.ensures in
    let s = c.in-Closed in
    let is = c.in-Some.is ∙ ap Some s.is in
    inr (
      closed_stops _ _ c.args.connection.now.incoming c.next_head-found.new.connection.incoming _ _ _
          (rw is at h.holds) (rw is at h.found) h.flushed (rw is at h.sound),
      refl,
    )

pub returns-in-ReadFailed : goal.returns-in-ReadFailed
returns-in-ReadFailed g c =
    let h = c.next_head-found.ensures in
    let s = c.in-ReadFailed in
    let is = c.in-Some.is ∙ ap Some s.is in
    let idle = rw is at h.idle in
    inr (
      fault_stops _ _ c.args.connection.now.incoming c.next_head-found.new.connection.incoming _ _ _
          (rw is at h.holds) (rw is at h.found) h.flushed (rw is at h.sound) (idle refl),
      refl,
    )

pub returns-in-Turns : goal.returns-in-Turns
returns-in-Turns g c =
    let h = c.next_head-found.ensures in
    let s = c.in-Turns in
    let is = c.in-Some.is ∙ ap Some s.is in
    let turns = rw is at h.turns in
    inr (
      turns_stops _ _ c.args.connection.now.incoming c.next_head-found.new.connection.incoming _ _ _
          (rw is at h.holds) (rw is at h.found) h.flushed (rw is at h.sound) (turns refl),
      refl,
    )

pub returns-in-None : goal.returns-in-None
returns-in-None g c =
    let h = c.next_head-found.ensures in
    let holds = rw c.in-None.is at h.holds in
    inr (write_stops 0 _ _ c.args.connection.now.incoming _ _ (omega arith) holds.0 h.flushed (h.failed c.in-None.is), refl)
