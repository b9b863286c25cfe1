use Rattle.af_audit.proofs.RequestLemmas.{leave_one, nothing_done}
use Rattle.af_audit.proofs.laws.verdicts_leave_one_ledger.Goals as goal

pub returns : goal.returns
returns c = record { told = leave_one; nothing_done = nothing_done }
