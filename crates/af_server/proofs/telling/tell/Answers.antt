use Rattle.af_http.specs.Sending.{has_failed}
use Rattle.af_server.proofs.telling.tell.Goals as goal

pub returns : goal.returns
returns g c = (has_failed c.write_all-told.result, rw c.as_bytes.ensures.value at c.write_all-told.ensures.wrote)
