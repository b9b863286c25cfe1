-- What is entered leaves the version of the ledger, and is one entry at most.
use Rattle.std.proofs.Common.{◌≡◌, inl, inr, ap, ℕ, List, Bool, true, false}
use Rattle.std.specs.Prelude.{Option, Some, None, Result, Ok, Err}
use Rattle.af_sched.specs.declared.claim.Claim.{Claim}
use Rattle.af_sched.specs.declared.outcome.Outcome.{Outcome}
use Rattle.af_ops.specs.declared.op.Op.{Op}
use Rattle.af_audit.specs.declared.audit_fault.AuditFault.{AuditFault}
use Rattle.af_audit.specs.declared.audit_fault.AuditFault.TheVariants.{HistoryFull, OutOfMemory}
use Rattle.af_audit.specs.declared.report_refusal.ReportRefusal.{ReportRefusal}
use Rattle.af_audit.specs.declared.report_refusal.ReportRefusal.TheVariants as refusal
use Rattle.af_audit.specs.Answered.{EntersFor, MayEnter}
use Rattle.af_audit.specs.Claimed.{IsClaimed}
use Rattle.af_audit.specs.declared.act.Act.{Act}
use Rattle.af_audit.specs.declared.actor.Actor.{Actor}
use Rattle.af_audit.specs.Ledgers.{LedgerRows, entered, entry_of}
use Rattle.af_plane.specs.Growth.{IsOneMore}
use Rattle.af_sched.specs.State.{StateRows}
use Rattle.af_audit.specs.Reported.{IsReported}
use Rattle.af_audit.specs.Ticked.{IsTicked}

same_version : (old new : LedgerRows) → new ≡ old → new.version ≡ old.version
same_version old new same = ap (λ (l : LedgerRows). l.version) same

enters_version : (who : Option (List ℕ)) (asked : Op) (t : ℕ) (old new : LedgerRows) → EntersFor who asked t old new → new.version ≡ old.version
enters_version None asked t old new enters = absurd enters
enters_version (Some user) asked t old new enters = ap (λ (l : LedgerRows). l.version) enters.ledger

pub may_version : (who : Option (List ℕ)) (asked : Op) (t : ℕ) (old new : LedgerRows) → MayEnter who asked t old new → new.version ≡ old.version
may_version who asked t old new (inl same) = same_version old new same
may_version who asked t old new (inr enters) = enters_version who asked t old new enters

pub ticked_version : (t : ℕ) (old new : LedgerRows) (told : Result Bool AuditFault) → IsTicked t old new told → new.version ≡ old.version
ticked_version t old new (Ok true) is = ap (λ (l : LedgerRows). l.version) is.ledger
ticked_version t old new (Ok false) is = same_version old new is.ledger
ticked_version t old new (Err HistoryFull) is = same_version old new is.ledger
ticked_version t old new (Err OutOfMemory) is = same_version old new is

pub claimed_version : (t : ℕ) (old new : LedgerRows) (told : Result (Option Claim) AuditFault) → IsClaimed t old new told → new.version ≡ old.version
claimed_version t old new (Ok None) is = same_version old new is.ledger
claimed_version t old new (Ok (Some claim)) is = ap (λ (l : LedgerRows). l.version) is.ledger
claimed_version t old new (Err HistoryFull) is = same_version old new is.ledger
claimed_version t old new (Err OutOfMemory) is = same_version old new is.ledger

pub reported_version : (t : ℕ) (claim : Claim) (outcome : Outcome) (old new : LedgerRows) (told : Result (Unit {0}) ReportRefusal) → IsReported t claim outcome old new told → new.version ≡ old.version
reported_version t claim outcome old new (Ok done) is = ap (λ (l : LedgerRows). l.version) is.ledger
reported_version t claim outcome old new (Err (refusal.Fault fault)) is = same_version old new is.1
reported_version t claim outcome old new (Err (refusal.Audit HistoryFull)) is = same_version old new is.ledger
reported_version t claim outcome old new (Err (refusal.Audit OutOfMemory)) is = same_version old new is.ledger

-- ---- one entry at most

same_entries : (old new : LedgerRows) → new ≡ old → IsOneMore old.audit.entries new.audit.entries
same_entries old new same = inl (ap (λ (l : LedgerRows). l.audit.entries) same)

one_entry : (old new : LedgerRows) (who : Actor) (it : Act) (t : ℕ) (next : StateRows) → new ≡ entered old who it t next → IsOneMore old.audit.entries new.audit.entries
one_entry old new who it t next is = inr (entry_of old who it t, ap (λ (l : LedgerRows). l.audit.entries) is)

enters_one : (who : Option (List ℕ)) (asked : Op) (t : ℕ) (old new : LedgerRows) → EntersFor who asked t old new → IsOneMore old.audit.entries new.audit.entries
enters_one None asked t old new enters = absurd enters
enters_one (Some user) asked t old new enters = one_entry old new _ _ t new.state enters.ledger

pub may_one : (who : Option (List ℕ)) (asked : Op) (t : ℕ) (old new : LedgerRows) → MayEnter who asked t old new → IsOneMore old.audit.entries new.audit.entries
may_one who asked t old new (inl same) = same_entries old new same
may_one who asked t old new (inr enters) = enters_one who asked t old new enters

pub ticked_one : (t : ℕ) (old new : LedgerRows) (told : Result Bool AuditFault) → IsTicked t old new told → IsOneMore old.audit.entries new.audit.entries
ticked_one t old new (Ok true) is = one_entry old new _ _ t new.state is.ledger
ticked_one t old new (Ok false) is = same_entries old new is.ledger
ticked_one t old new (Err HistoryFull) is = same_entries old new is.ledger
ticked_one t old new (Err OutOfMemory) is = same_entries old new is

pub claimed_one : (t : ℕ) (old new : LedgerRows) (told : Result (Option Claim) AuditFault) → IsClaimed t old new told → IsOneMore old.audit.entries new.audit.entries
claimed_one t old new (Ok None) is = same_entries old new is.ledger
claimed_one t old new (Ok (Some claim)) is = one_entry old new _ _ t _ is.ledger
claimed_one t old new (Err HistoryFull) is = same_entries old new is.ledger
claimed_one t old new (Err OutOfMemory) is = same_entries old new is.ledger

pub reported_one : (t : ℕ) (claim : Claim) (outcome : Outcome) (old new : LedgerRows) (told : Result (Unit {0}) ReportRefusal) → IsReported t claim outcome old new told → IsOneMore old.audit.entries new.audit.entries
reported_one t claim outcome old new (Ok done) is = one_entry old new _ _ t _ is.ledger
reported_one t claim outcome old new (Err (refusal.Fault fault)) is = same_entries old new is.1
reported_one t claim outcome old new (Err (refusal.Audit HistoryFull)) is = same_entries old new is.ledger
reported_one t claim outcome old new (Err (refusal.Audit OutOfMemory)) is = same_entries old new is.ledger
