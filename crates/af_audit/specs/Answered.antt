-- What a request comes to on a ledger: the verdict on it where the ledger stands, under the ledger's version and with its own limit
-- of entries; and where that changes the state, one entry, which names the user behind the token.
use Rattle.std.specs.Prelude.{ℕ, ◌≡◌, ◌⊎◌, List, length, Option, Some, None, Result, Ok, Err}
use Rattle.af_policy.specs.Identity.{bearer_of}
use Rattle.af_policy.specs.Rows.{PolicyRows}
use Rattle.af_sched.specs.State.{StateRows}
use Rattle.af_ops.specs.declared.answer.CallFault.{CallFault}
use Rattle.af_ops.specs.declared.answer.OpFault.{OpFault}
use Rattle.af_ops.specs.declared.answer.OpFault.TheVariants as fault
use Rattle.af_ops.specs.declared.op.Op.{Op}
use Rattle.af_ops.specs.declared.served.Served.TheVariants as served
use Rattle.af_ops.specs.declared.shown_answer.Shown.{Shown}
use Rattle.af_ops.specs.Decisions.{IsDecided}
use Rattle.af_ops.specs.Served.{IsServed}
use Rattle.af_ops.specs.Standings.{StandingRows}
use Rattle.af_ops.specs.Verdicts.{Verdict, Open, Stranger, Lacks, Refuses, Tells, Changes, judged, verdict}
use Rattle.af_audit.specs.declared.act.Act.TheVariants.{Did}
use Rattle.af_audit.specs.declared.actor.Actor.TheVariants.{User}
use Rattle.af_audit.specs.declared.audit_fault.AuditFault.{AuditFault}
use Rattle.af_audit.specs.declared.audit_fault.AuditFault.TheVariants.{HistoryFull, OutOfMemory}
use Rattle.af_audit.specs.Ledgers.{Enters, LedgerRows, entered}

-- a fault of the audit as one of an operation
abbrev pub op_fault : AuditFault → OpFault
op_fault HistoryFull = fault.HistoryFull
op_fault OutOfMemory = fault.OutOfMemory

-- where operations are decided: the version, the number of entries, and the state
abbrev pub standing_of : LedgerRows → StandingRows
standing_of ledger = record {
  under = record { version = ledger.version; seq = length ledger.audit.entries };
  state = ledger.state;
}

-- the verdict on what is asked under a token, at a moment
abbrev pub verdict_on : PolicyRows → LedgerRows → Option (List ℕ) → Op → ℕ → Verdict
verdict_on policy ledger token asked t = verdict ledger.audit.limit policy (standing_of ledger) token asked t

-- the verdict on an operation that is not open, on what the user of a token asks
abbrev pub closed_verdict : PolicyRows → LedgerRows → Option (List ℕ) → Op → ℕ → Verdict
closed_verdict policy ledger token asked t = judged ledger.audit.limit policy (standing_of ledger) asked t (bearer_of policy token)

-- A verdict was carried out: what it permits is done, and this is to be told; or it is a refusal, and nothing is done. Out of memory
-- comes last: it is the reason only where the verdict is no refusal (or that the history is full for what chooses instances).
abbrev pub IsPerformed : Op → Verdict → StandingRows → Result Shown CallFault → StandingRows → Type 0
IsPerformed asked it old (Ok shown) new = IsServed asked it old (served.Shown shown) new
IsPerformed asked it old (Err fault) new = IsDecided asked old.state it (Err fault) × (new ≡ old)

-- an operation of the user, if there is one, changed the state, and one entry says so
abbrev pub EntersFor : Option (List ℕ) → Op → ℕ → LedgerRows → LedgerRows → Type 0
EntersFor None asked t old new = ⊥
EntersFor (Some user) asked t old new = Enters (User user) (Did asked) t old new

-- or the ledger is as it was
abbrev pub MayEnter : Option (List ℕ) → Op → ℕ → LedgerRows → LedgerRows → Type 0
MayEnter who asked t old new = (new ≡ old) ⊎ EntersFor who asked t old new

-- the ledger with an entry of the user's, if there is one
abbrev pub entered_for : Option (List ℕ) → Op → ℕ → LedgerRows → StateRows → LedgerRows
entered_for None asked t ledger next = ledger
entered_for (Some user) asked t ledger next = entered ledger (User user) (Did asked) t next

-- the ledger that a verdict leaves, on what a user asks, if there is one
abbrev pub ledger_left : Option (List ℕ) → Op → ℕ → LedgerRows → Verdict → LedgerRows
ledger_left who asked t ledger (Open reply) = ledger
ledger_left who asked t ledger Stranger = ledger
ledger_left who asked t ledger (Lacks need) = ledger
ledger_left who asked t ledger (Refuses why) = ledger
ledger_left who asked t ledger (Tells reply) = ledger
ledger_left who asked t ledger (Changes reply next) = entered_for who asked t ledger next
