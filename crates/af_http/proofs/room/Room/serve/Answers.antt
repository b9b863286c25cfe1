use Rattle.af_http.proofs.ConnectLemmas.{turned_away}
use Rattle.af_http.proofs.room.Room.serve.Goals as goal

pub returns-in-Err : goal.returns-in-Err
returns-in-Err g c = turned_away g.S.Service.answers _ _ _ _ _ c.turn_away.ensures
