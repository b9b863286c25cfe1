use Rattle.af_http.proofs.SendLemmas.{if_some}
use Rattle.af_http.proofs.turn.go_on.Goals as goal

pub returns : goal.returns
returns g c =
    let h = c.unless_failed.ensures in
    record {
      put = c.make_room.ensures.sent;
      found = h.found;
      room = if_some _ _ c.unless_failed.result h.sound c.make_room.ensures.room;
      sound = h.sound;
      failed = h.failed;
    }
