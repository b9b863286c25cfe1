-- What a tick leaves of a ledger.
use Rattle.std.proofs.Common.{refl, subst, sym, ℕ, Bool, true, false}
use Rattle.std.specs.Prelude.{Err, Ok, Result}
use Rattle.af_audit.specs.declared.act.Act.TheVariants.{Tick}
use Rattle.af_audit.specs.declared.actor.Actor.TheVariants.{Scheduler}
use Rattle.af_audit.specs.declared.audit_fault.AuditFault.{AuditFault}
use Rattle.af_audit.specs.declared.audit_fault.AuditFault.TheVariants.{HistoryFull, OutOfMemory}
use Rattle.af_audit.specs.Acts.{IsState}
use Rattle.af_audit.specs.Ledgers.{IsLedger, LedgerRows}
use Rattle.af_audit.specs.Ticked.{IsTicked}
use Rattle.af_audit.proofs.LedgerLemmas.{ledger_grown}

-- what a tick leaves is as a ledger is at all times
pub tick_kept : (t : ℕ) (old new : LedgerRows) (told : Result Bool AuditFault) → IsLedger old → IsState new.state → IsTicked t old new told → IsLedger new
tick_kept t old new (Ok true) is state ticked =
    subst IsLedger (sym ticked.ledger) (ledger_grown old Scheduler Tick t new.state is ticked.room refl state ticked.after)
tick_kept t old new (Ok false) is state ticked = subst IsLedger (sym ticked.ledger) is
tick_kept t old new (Err HistoryFull) is state ticked = subst IsLedger (sym ticked.ledger) is
tick_kept t old new (Err OutOfMemory) is state same = subst IsLedger (sym same) is
