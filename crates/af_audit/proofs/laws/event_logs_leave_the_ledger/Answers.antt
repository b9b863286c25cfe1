use Rattle.af_audit.proofs.LogLemmas.{logs_leave}
use Rattle.af_audit.proofs.laws.event_logs_leave_the_ledger.Goals as goal

pub returns : goal.returns
returns c = logs_leave
