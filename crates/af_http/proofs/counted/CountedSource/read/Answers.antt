use Rattle.af_http.proofs.StreamLemmas.{consumed}
use Rattle.af_http.proofs.counted.CountedSource.read.Goals as goal

pub returns-in-Ok-clause-known : goal.returns-in-Ok-clause-known
returns-in-Ok-clause-known g c = rw c.with_bytes-self.ensures (rw c.replace-log-in-Ok-2.ensures.value (consumed _ _ _ _ c.in-Ok.ensures.bytes.0))
