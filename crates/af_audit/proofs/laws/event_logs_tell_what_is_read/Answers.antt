use Rattle.af_audit.proofs.LogLemmas.{logs_tell}
use Rattle.af_audit.proofs.laws.event_logs_tell_what_is_read.Goals as goal

pub returns : goal.returns
returns c = logs_tell
