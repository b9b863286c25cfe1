-- What the scheduler's thread does, with a session of its own: in each round a tick, and then tries of task instances until none is queued
-- (this product's own rule).
use Rattle.std.specs.Prelude.{◌≡◌, ℕ, zero, suc, List, [], ◌∷◌, ◌++◌, Bool, true, false, Option, Some, None, Result, Ok, Err}
use Rattle.std.specs.declared.time.Duration.{Duration}
use Rattle.af_sched.specs.Scripts.{ScriptRow, scripted_outcome}
use Rattle.af_sched.specs.declared.claim.Claim.{Claim}
use Rattle.af_sched.specs.declared.outcome.Outcome.{Outcome}
use Rattle.af_audit.specs.Claimed.{IsClaimed}
use Rattle.af_audit.specs.Reported.{IsReported}
use Rattle.af_audit.specs.Ticked.{IsTicked}
use Rattle.af_audit.specs.declared.audit_fault.AuditFault.{AuditFault}
use Rattle.af_audit.specs.declared.report_refusal.ReportRefusal.{ReportRefusal}
use Rattle.af_plane.specs.Closings.{IsOfControl}
use Rattle.af_plane.specs.declared.session_log.SessionLog.{SessionLog}
use Rattle.af_plane.specs.Logs.{HasClaimed, HasReported, HasTicked, rows_of}
use Rattle.af_plane.specs.Names.{IsDone, Name}
use Rattle.af_plane.specs.Planes.{ClaimIs, ReportIs, TickIs}
use Rattle.af_plane.specs.Visits.{SessionRows}
use Rattle.af_server.specs.declared.stop_wait.StopWait.{StopWait}
use Rattle.af_server.specs.Reports.{SchedulerRows}
use Rattle.af_server.specs.Workers.{IsNew}

-- how long a period is, in nanoseconds
abbrev pub second : ℕ
second = 1000000000

-- a wait for a period at most that ended so, when the session had done just this; so many workers have reported when it is told
abbrev pub IsWait : ℕ → Duration → Bool → SessionRows → StopWait × SessionLog → Type 0
IsWait workers period told session wait = (wait.0 ≡ record { workers = workers; time = period; told = told }) × (rows_of session.visit wait.1 ≡ session)

-- a claim gave no instance: none is queued, or there was an error
abbrev pub IsNone : Result (Option Claim) AuditFault → Type 0
IsNone (Ok None) = Unit {0}
IsNone (Ok (Some claim)) = ⊥
IsNone (Err fault) = Unit {0}

-- tells: which instants the clock may tell
module _ (tells : ℕ → Type 0) (name : Name) where
  -- a session has ticked at an instant that the clock may tell; and that is all that it did
  pub record Ticks (was now : SessionRows) : Type 0 where
    pub at : ℕ
    pub within : tells at
    pub told : Result Bool AuditFault
    pub done : IsDone name was.visit now.visit (λ old new. IsTicked at old new told × TickIs old at told new)
    pub once : HasTicked was at told now

  -- the same of a claim, and what it gave
  pub record Claims (was : SessionRows) (told : Result (Option Claim) AuditFault) (now : SessionRows) : Type 0 where
    pub at : ℕ
    pub within : tells at
    pub done : IsDone name was.visit now.visit (λ old new. IsClaimed at old new told × ClaimIs old at told new)
    pub once : HasClaimed was at told now

  -- and of a report of the outcome of a claimed try
  pub record Reports (was : SessionRows) (claim : Claim) (outcome : Outcome) (now : SessionRows) : Type 0 where
    pub at : ℕ
    pub within : tells at
    pub told : Result (Unit {0}) ReportRefusal
    pub done : IsDone name was.visit now.visit (λ old new. IsReported at claim outcome old new told × ReportIs old claim outcome at told new)
    pub once : HasReported was claim outcome at told now

  -- an instance was claimed, and the outcome that its script says was reported
  abbrev pub HasTried : List ScriptRow → SessionRows → SessionRows → Type 0
  HasTried scripts was now =
      (claim : Claim) × ((mid : SessionRows) × (Claims was (Ok (Some claim)) mid × Reports mid claim (scripted_outcome scripts claim) now))

  -- so many, one after another
  abbrev pub HasTriedAll : List ScriptRow → ℕ → SessionRows → SessionRows → Type 0
  HasTriedAll scripts zero was now = now ≡ was
  HasTriedAll scripts (suc n) was now = (mid : SessionRows) × (HasTriedAll scripts n was mid × HasTried scripts mid now)

  -- no more was claimed
  abbrev pub HasStopped : SessionRows → SessionRows → Type 0
  HasStopped was now = (told : Result (Option Claim) AuditFault) × (IsNone told × Claims was told now)

  -- tries, until no more is claimed
  abbrev pub HasWorked : List ScriptRow → SessionRows → SessionRows → Type 0
  HasWorked scripts was now = (tries : ℕ) × ((mid : SessionRows) × (HasTriedAll scripts tries was mid × HasStopped mid now))

  -- a round
  abbrev pub IsRound : List ScriptRow → SessionRows → SessionRows → Type 0
  IsRound scripts was now = (ticked : SessionRows) × (Ticks was ticked × HasWorked scripts ticked now)

  -- waits for a period that came to their end, each with a round after it and before the next
  abbrev pub AreRounds : List ScriptRow → ℕ → Duration → List (StopWait × SessionLog) → SessionRows → SessionRows → Type 0
  AreRounds scripts workers period [] was now = now ≡ was
  AreRounds scripts workers period (wait ∷ waits) was now =
      IsWait workers period false was wait × ((mid : SessionRows) × (IsRound scripts was mid × AreRounds scripts workers period waits mid now))

  -- all of these, and then one in which it was told to stop
  pub record HasWaited (scripts : List ScriptRow) (workers : ℕ) (period : Duration) (waits : List (StopWait × SessionLog)) (was now : SessionRows) : Type 0 where
    pub earlier : List (StopWait × SessionLog)
    pub last : StopWait × SessionLog
    pub all : waits ≡ earlier ++ last ∷ []
    pub rounds : AreRounds scripts workers period earlier was now
    pub stopped : IsWait workers period true now last

  -- The scheduler has waited for a period, again and again, until it was told to stop when so many workers had reported. With this session it has had a round after each wait
  -- that came to its end, before the next: the session has ticked, claimed and reported nothing else. No connection was handed to it.
  pub record HasScheduled (scripts : List ScriptRow) (workers : ℕ) (period : Duration) (scheduler : SchedulerRows) : Type 0 where
    pub opening : SessionRows
    pub opened : IsNew opening
    pub alone : scheduler.connections ≡ []
    pub waited : HasWaited scripts workers period scheduler.waits opening scheduler.session
    pub of : IsOfControl name scheduler.session
