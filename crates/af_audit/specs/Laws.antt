-- Laws about the audit, in words of their own.
use Rattle.std.specs.Prelude.{ℕ, ◌≡◌, ◌≤◌, ◌+◌, ◌<◌, ◌++◌, List, [], ◌∷◌, All, Bool, true, Option, Some, None, Result, Ok, length, slice_index_or, take, ⊤}
use Rattle.serde_json.specs.Written.{compact_text}
use Rattle.af_listing.specs.Pages.{cut}
use Rattle.af_listing.specs.Windows.{Cut}
use Rattle.af_policy.specs.declared.bad_input.Parameter.{Parameter}
use Rattle.af_policy.specs.Grants.{Readable, reads}
use Rattle.af_policy.specs.Identity.{bearer_of}
use Rattle.af_policy.specs.Rows.{PolicyRows}
use Rattle.af_runs.specs.declared.run.Run.{Run}
use Rattle.af_sched.specs.State.{StateRows}
use Rattle.af_sched.specs.declared.claim.Claim.{Claim}
use Rattle.af_sched.specs.declared.outcome.Outcome.{Outcome}
use Rattle.af_ops.specs.declared.body_fault.BodyFault.{BodyFault}
use Rattle.af_ops.specs.declared.op.Op.{Op}
use Rattle.af_ops.specs.declared.op.Op.TheVariants as op
use Rattle.af_ops.specs.declared.served.Served.{Served}
use Rattle.af_ops.specs.declared.served.Served.TheVariants as served
use Rattle.af_ops.specs.declared.shown_answer.Shown.{Shown}
use Rattle.af_ops.specs.declared.trigger.Trigger.{Trigger}
use Rattle.af_ops.specs.Effects.{effect_of}
use Rattle.af_ops.specs.Served.{IsChange, IsServed}
use Rattle.af_ops.specs.Standings.{StandingRows}
use Rattle.af_ops.specs.Verdicts.{Changes, Tells}
use Rattle.af_audit.specs.declared.act.Act.TheVariants.{Did}
use Rattle.af_audit.specs.declared.actor.Actor.{Actor}
use Rattle.af_audit.specs.declared.actor.Actor.TheVariants.{User}
use Rattle.af_audit.specs.declared.audit_fault.AuditFault.{AuditFault}
use Rattle.af_audit.specs.declared.entry.Entry.{Entry}
use Rattle.af_audit.specs.declared.report_refusal.ReportRefusal.{ReportRefusal}
use Rattle.af_audit.specs.Acts.{IsState, next_of}
use Rattle.af_audit.specs.Answered.{MayEnter, ledger_left, standing_of, verdict_on}
use Rattle.af_audit.specs.Claimed.{IsClaimed}
use Rattle.af_audit.specs.Entries.{AreNumbered, IsReplay}
use Rattle.af_audit.specs.EventLogs.{entries_verdict, nameless}
use Rattle.af_audit.specs.Ledgers.{Enters, Follows, IsLedger, LedgerRows, entered, entry_of}
use Rattle.af_audit.specs.Logs.{act_dag, entry_run, logs_data, shown_entries}
use Rattle.af_audit.specs.Reported.{IsReported}
use Rattle.af_audit.specs.Ticked.{IsTicked}

-- the entry at each place has the number after that place: they are counted from 1, and no number is left out
abbrev pub NumbersHaveNoGap : Type 0
NumbersHaveNoGap =
    (entries : List Entry) (place : ℕ) (d : Entry) → AreNumbered entries → place < length entries → (slice_index_or entries place d).seq ≡ place + 1

-- entries make one state of another
abbrev pub ReplayIsOne : Type 0
ReplayIsOne =
    (entries : List Entry) (old one other : StateRows) → IsState old → IsReplay old entries one → IsReplay old entries other → one ≡ other

-- the first entries make the state as it was when there were no more, of which the others make the state as it is
abbrev pub FrontsMakeTheStateAsItWas : Type 0
FrontsMakeTheStateAsItWas =
    (front rest : List Entry) (opening state was : StateRows) → IsState opening → IsReplay opening (front ++ rest) state → IsReplay opening front was
    → IsReplay was rest state

-- what an operation changes does not depend on what the one who asks may read
abbrev pub NoChangeDependsOnTheReader : Type 0
NoChangeDependsOnTheReader =
    (readable other : Readable) (state : StateRows) (asked : Op) (t : ℕ) → next_of (effect_of readable state asked t) ≡ next_of (effect_of other state asked t)

-- a request that is no change, since nobody has the token, a requirement is lacked, it is refused, or it only tells, leaves the
-- ledger: no entry, no other state
abbrev pub WhatIsNoChangeLeavesTheLedger : Type 0
WhatIsNoChangeLeavesTheLedger =
    (policy : PolicyRows) (token : Option (List ℕ)) (asked : Op) (t : ℕ) (old new : LedgerRows) (gave : Served)
    → IsServed asked (verdict_on policy old token asked t) (standing_of old) gave (standing_of new)
    → MayEnter (bearer_of policy token) asked t old new
    → (IsChange (verdict_on policy old token asked t) → ⊥)
    → new ≡ old

-- a change that is told has one entry, the last, which names the user of the token
abbrev pub ChangesNameTheUser : Type 0
ChangesNameTheUser =
    (policy : PolicyRows) (token : Option (List ℕ)) (asked : Op) (t : ℕ) (old new : LedgerRows) (shown : Shown) (reply : Option (List ℕ)) (next : StateRows)
    → IsServed asked (verdict_on policy old token asked t) (standing_of old) (served.Shown shown) (standing_of new)
    → MayEnter (bearer_of policy token) asked t old new
    → verdict_on policy old token asked t ≡ Changes reply next
    → (user : List ℕ) × (bearer_of policy token ≡ Some user) × (new ≡ entered old (User user) (Did asked) t next)

-- what is told of a verdict leaves the ledger of that verdict, and no other
abbrev pub VerdictsLeaveOneLedger : Type 0
VerdictsLeaveOneLedger =
    (policy : PolicyRows) (token : Option (List ℕ)) (asked : Op) (t : ℕ) (old new : LedgerRows) (shown : Shown)
    → IsServed asked (verdict_on policy old token asked t) (standing_of old) (served.Shown shown) (standing_of new)
    → MayEnter (bearer_of policy token) asked t old new
    → new ≡ ledger_left (bearer_of policy token) asked t old (verdict_on policy old token asked t)

-- where there was no memory, and nothing was done, the ledger is as it was
abbrev pub NothingDoneLeavesTheLedger : Type 0
NothingDoneLeavesTheLedger =
    (policy : PolicyRows) (token : Option (List ℕ)) (asked : Op) (t : ℕ) (old new : LedgerRows)
    → IsServed asked (verdict_on policy old token asked t) (standing_of old) served.NothingDone (standing_of new)
    → MayEnter (bearer_of policy token) asked t old new
    → new ≡ old

-- the entry of a trigger names the run that it added, the last of all
abbrev pub TriggersNameTheirRun : Type 0
TriggersNameTheirRun =
    (who : Actor) (dag_id : List ℕ) (input : Result Trigger BodyFault) (t : ℕ) (old new : LedgerRows)
    → IsLedger old → Enters who (Did (op.TriggerRun dag_id input)) t old new
    → (run : Run) × (new.state.runs ≡ old.state.runs ++ run ∷ []) × (run.dag_id ≡ dag_id)
    × (entry_run (entry_of old who (Did (op.TriggerRun dag_id input)) t) ≡ Some run.run_id)

-- ---- event logs

-- to ask for event logs leaves the ledger, whatever is served
abbrev pub EventLogsLeaveTheLedger : Type 0
EventLogsLeaveTheLedger =
    (policy : PolicyRows) (token : Option (List ℕ)) (asked : Result Cut Parameter) (old : LedgerRows) (gave : Served) (new : StandingRows)
    → IsServed nameless (entries_verdict policy old token asked) (standing_of old) gave new
    → new ≡ standing_of old

-- who may ask for event logs is told of what names no DAG, and of what names a DAG that this user reads
abbrev pub MayBeTold : PolicyRows → List ℕ → Option (List ℕ) → Type 0
MayBeTold policy user None = ⊤
MayBeTold policy user (Some dag_id) = reads policy user dag_id ≡ true

-- a user is told a page of entries
pub record TellsPage (policy : PolicyRows) (user : List ℕ) (window : Cut) (entries : List Entry) (reply : Option (List ℕ)) : Type 0 where
  -- those of all entries that the user may be told
  pub shown : List Entry
  pub all : shown ≡ shown_entries (reads policy user) entries
  pub each : All (λ entry. MayBeTold policy user (act_dag entry.act)) shown
  -- the rows are cut of these, and the total counts these alone
  pub told : reply ≡ Some (compact_text (logs_data (cut window shown) (length shown)))

abbrev pub EventLogsTellWhatIsRead : Type 0
EventLogsTellWhatIsRead =
    (policy : PolicyRows) (token : Option (List ℕ)) (window : Cut) (ledger : LedgerRows) (reply : Option (List ℕ))
    → entries_verdict policy ledger token (Ok window) ≡ Tells reply
    → (user : List ℕ) × (bearer_of policy token ≡ Some user) × TellsPage policy user window ledger.audit.entries reply

-- ---- ledgers that follow one another

-- the version of an entry is no lower than that of an entry before it, and no higher than the ledger's
abbrev pub VersionsNeverFall : Type 0
VersionsNeverFall =
    (ledger : LedgerRows) (place later : ℕ) (d : Entry) → IsLedger ledger → place ≤ later → later < length ledger.audit.entries
    → ((slice_index_or ledger.audit.entries place d).version ≤ (slice_index_or ledger.audit.entries later d).version)
    × ((slice_index_or ledger.audit.entries later d).version ≤ ledger.version)

-- what each call leaves follows what it found
abbrev pub LooksFollow : Type 0
LooksFollow = (old : LedgerRows) (version : ℕ) → old.version ≤ version → Follows old (record old { version = version })

abbrev pub RequestsFollow : Type 0
RequestsFollow = (who : Option (List ℕ)) (asked : Op) (t : ℕ) (old new : LedgerRows) → MayEnter who asked t old new → Follows old new

abbrev pub TicksFollow : Type 0
TicksFollow = (t : ℕ) (old new : LedgerRows) (told : Result Bool AuditFault) → IsTicked t old new told → Follows old new

abbrev pub ClaimsFollow : Type 0
ClaimsFollow = (t : ℕ) (old new : LedgerRows) (told : Result (Option Claim) AuditFault) → IsClaimed t old new told → Follows old new

abbrev pub ReportsFollow : Type 0
ReportsFollow =
    (t : ℕ) (claim : Claim) (outcome : Outcome) (old new : LedgerRows) (told : Result (Unit {0}) ReportRefusal)
    → IsReported t claim outcome old new told → Follows old new

abbrev pub FollowersFollow : Type 0
FollowersFollow = (first second third : LedgerRows) → Follows first second → Follows second third → Follows first third

-- the first entries of a later ledger, as many as there were, make the state that then stood
abbrev pub FrontsMakeTheStateThatStood : Type 0
FrontsMakeTheStateThatStood =
    (old new : LedgerRows) (was : StateRows) → IsLedger old → Follows old new
    → IsReplay new.opening (take (length old.audit.entries) new.audit.entries) was
    → was ≡ old.state
