-- What a tick leaves of a ledger.
use Rattle.std.specs.Prelude.{ℕ, ◌≡◌, Bool, true, false, Result, Ok, Err}
use Rattle.af_audit.specs.declared.act.Act.TheVariants.{Tick}
use Rattle.af_audit.specs.declared.actor.Actor.TheVariants.{Scheduler}
use Rattle.af_audit.specs.declared.audit_fault.AuditFault.{AuditFault}
use Rattle.af_audit.specs.declared.audit_fault.AuditFault.TheVariants.{HistoryFull, OutOfMemory}
use Rattle.af_audit.specs.Ledgers.{Enters, FindsNoRoom, LedgerRows, Stays}

-- the ledgers before and after a tick at a moment that tells this: whether it changed the state, or why it is not done
abbrev pub IsTicked : ℕ → LedgerRows → LedgerRows → Result Bool AuditFault → Type 0
IsTicked t old new (Ok true) = Enters Scheduler Tick t old new
IsTicked t old new (Ok false) = Stays Tick t old new
IsTicked t old new (Err HistoryFull) = FindsNoRoom Tick t old new
IsTicked t old new (Err OutOfMemory) = new ≡ old
