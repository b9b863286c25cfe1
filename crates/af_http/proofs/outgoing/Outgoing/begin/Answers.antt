use Rattle.af_http.specs.Limits.{outgoing_room}
use Rattle.af_http.proofs.SendLemmas.{put_strict}
use Rattle.af_http.proofs.outgoing.Outgoing.begin.Goals as goal

pub returns : goal.returns
returns g c = put_strict _ _ _ outgoing_room c.requires.some c.requires.room c.put.ensures.first c.put.ensures.all
