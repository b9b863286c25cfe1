-- What a claim leaves of a ledger.
use Rattle.std.specs.Prelude.{ℕ, ◌≡◌, Bool, true, false, Option, Some, None, Result, Ok, Err, if◌then◌else◌}
use Rattle.af_sched.specs.Claims.{Claims, IsToldNext, is_claimable}
use Rattle.af_sched.specs.Placed.{NonePasses, placed_in}
use Rattle.af_sched.specs.State.{StateRows}
use Rattle.af_sched.specs.declared.claim.Claim.{Claim}
use Rattle.af_audit.specs.declared.act.Act.TheVariants as act
use Rattle.af_audit.specs.declared.actor.Actor.TheVariants.{Executor}
use Rattle.af_audit.specs.declared.audit_fault.AuditFault.{AuditFault}
use Rattle.af_audit.specs.declared.audit_fault.AuditFault.TheVariants.{HistoryFull, OutOfMemory}
use Rattle.af_audit.specs.Entries.{has_room}
use Rattle.af_audit.specs.Ledgers.{LedgerRows, entered}

-- an instance was claimed, and one entry says which
pub record ClaimsOne (t : ℕ) (old new : LedgerRows) (claim : Claim) : Type 0 where
  pub room : has_room old.audit ≡ true
  pub claims : Claims t old.state new.state claim
  pub ledger : new ≡ entered old Executor (act.Claim claim) t new.state

-- there is nothing to claim, and no entry
pub record FindsNone (old new : LedgerRows) : Type 0 where
  pub none : NonePasses is_claimable (placed_in old.state.dags old.state.runs)
  pub ledger : new ≡ old

-- there is something to claim, and no room for its entry: nothing is done
pub record ClaimsFull (old new : LedgerRows) : Type 0 where
  pub full : has_room old.audit ≡ false
  pub claim : Claim
  pub told : IsToldNext old.state claim
  pub ledger : new ≡ old

-- there is something to claim, and no memory for it or for its entry
pub record ClaimFindsNoMemory (old new : LedgerRows) : Type 0 where
  pub room : has_room old.audit ≡ true
  pub claim : Claim
  pub told : IsToldNext old.state claim
  pub ledger : new ≡ old

-- why the next claim is not told: there is one, and no room for its entry, or no memory
pub record IsPassedOver (state : StateRows) (room : Bool) (fault : AuditFault) : Type 0 where
  pub claim : Claim
  pub told : IsToldNext state claim
  pub why : fault ≡ (if room then OutOfMemory else HistoryFull)

-- the ledgers before and after a claim at a moment that tells this: where there is something to claim, a full history comes first, then
-- out of memory
abbrev pub IsClaimed : ℕ → LedgerRows → LedgerRows → Result (Option Claim) AuditFault → Type 0
IsClaimed t old new (Ok None) = FindsNone old new
IsClaimed t old new (Ok (Some claim)) = ClaimsOne t old new claim
IsClaimed t old new (Err HistoryFull) = ClaimsFull old new
IsClaimed t old new (Err OutOfMemory) = ClaimFindsNoMemory old new
