-- What a report leaves of a ledger.
use Rattle.std.specs.Prelude.{ℕ, ◌≡◌, true, false, Some, None, Result, Ok, Err}
use Rattle.af_runs.specs.Runs.{run_at}
use Rattle.af_runs.specs.declared.run.Run.{Run}
use Rattle.af_sched.specs.Reports.{report_fault, reported}
use Rattle.af_sched.specs.declared.claim.Claim.{Claim}
use Rattle.af_sched.specs.declared.outcome.Outcome.{Outcome}
use Rattle.af_audit.specs.declared.act.Act.TheVariants as act
use Rattle.af_audit.specs.declared.actor.Actor.TheVariants.{Executor}
use Rattle.af_audit.specs.declared.audit_fault.AuditFault.TheVariants.{HistoryFull, OutOfMemory}
use Rattle.af_audit.specs.declared.report_refusal.ReportRefusal.{ReportRefusal}
use Rattle.af_audit.specs.declared.report_refusal.ReportRefusal.TheVariants as refusal
use Rattle.af_audit.specs.Entries.{has_room}
use Rattle.af_audit.specs.Ledgers.{LedgerRows, entered}

-- the claim of a try of this run: a report names an instance by the number of its run and the id of its task, so the ids of the run
-- are those that the run has
abbrev pub claim_in : Claim → Run → Claim
claim_in claim run = record claim { dag_id = run.dag_id; run_id = run.run_id }

-- the report was taken, and one entry says so, which names the run by its own ids
pub record TakesReport (t : ℕ) (claim : Claim) (outcome : Outcome) (old new : LedgerRows) : Type 0 where
  pub no_fault : report_fault old.state claim ≡ None
  pub room : has_room old.audit ≡ true
  pub run : Run
  pub numbered : run_at old.state.runs claim.run_number ≡ Some run
  pub ledger : new ≡ entered old Executor (act.Report (claim_in claim run) outcome) t (reported t outcome old.state claim)

-- it would be taken, and there is no room for its entry: nothing is done
pub record ReportFindsNoRoom (claim : Claim) (old new : LedgerRows) : Type 0 where
  pub no_fault : report_fault old.state claim ≡ None
  pub full : has_room old.audit ≡ false
  pub ledger : new ≡ old

-- it would be taken, and there is no memory for its entry
pub record ReportFindsNoMemory (claim : Claim) (old new : LedgerRows) : Type 0 where
  pub no_fault : report_fault old.state claim ≡ None
  pub room : has_room old.audit ≡ true
  pub ledger : new ≡ old

-- the ledgers before and after a report at a moment that tells this: a report's own faults come first, then a full history,
-- then out of memory
abbrev pub IsReported : ℕ → Claim → Outcome → LedgerRows → LedgerRows → Result (Unit {0}) ReportRefusal → Type 0
IsReported t claim outcome old new (Ok done) = TakesReport t claim outcome old new
IsReported t claim outcome old new (Err (refusal.Fault fault)) = (report_fault old.state claim ≡ Some fault) × (new ≡ old)
IsReported t claim outcome old new (Err (refusal.Audit HistoryFull)) = ReportFindsNoRoom claim old new
IsReported t claim outcome old new (Err (refusal.Audit OutOfMemory)) = ReportFindsNoMemory claim old new
