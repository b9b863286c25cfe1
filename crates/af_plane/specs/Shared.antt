-- Sessions of any number over one plane behind a lock (this product's own rule). Take an order of all that happens there: the first finds the
-- opening plane, and each other what the one before it left. In it are their calls, what they ask of the policy, and what the scheduler and
-- executors do. It is one run of the world of as many sessions.
use Rattle.std.specs.Prelude.{◌≡◌, ℕ, List, [], ◌∷◌, ◌++◌, Bool, Option, Some, None, Result, Ok, Err, slice_get, slice_set}
use Rattle.af_policy.specs.Versions.{VersionRows}
use Rattle.af_sched.specs.declared.claim.Claim.{Claim}
use Rattle.af_sched.specs.declared.outcome.Outcome.{Outcome}
use Rattle.af_audit.specs.declared.audit_fault.AuditFault.{AuditFault}
use Rattle.af_audit.specs.declared.audit_fault.AuditFault.TheVariants.{HistoryFull, OutOfMemory}
use Rattle.af_audit.specs.declared.report_refusal.ReportRefusal.{ReportRefusal}
use Rattle.af_audit.specs.declared.report_refusal.ReportRefusal.TheVariants as refusal
use Rattle.af_audit.specs.Ledgers as ledgers
use Rattle.af_audit.specs.Ledgers.{LedgerRows}
use Rattle.af_board.specs.Marks.{Site}
use Rattle.af_world.specs.declared.reporting.Reporting.TheVariants.{Faulty, NoRoom, Takes}
use Rattle.af_world.specs.declared.session.Seen.{Seen}
use Rattle.af_world.specs.declared.step.Step.TheVariants as step
use Rattle.af_world.specs.Plane.{claim_told, report_told, tick_told}
use Rattle.af_world.specs.Runs.{Reaches}
use Rattle.af_world.specs.Worlds.{OpeningRows}
use Rattle.af_plane.specs.Events.{AnsweredStep, Exchange, StandsFor, answers_in, left_by, steps_in, turns_by}
use Rattle.af_plane.specs.Looks.{Basis}
use Rattle.af_plane.specs.Names.{IsNamed, Name}
use Rattle.af_plane.specs.Planes.{ClaimIs, ReportIs, TickIs, over, try_of}
use Rattle.af_plane.specs.Solos.{IsDecided}
use Rattle.af_plane.specs.Visits.{PlaneRows, SoloRows, Visit}

-- ---- what there is

-- the plane, and what each session holds; a session's number is its place, in the order in which they were opened
pub record SharedRows : Type 0 where
  pub plane : PlaneRows
  pub visits : List Visit

-- the plane that a name means, before any call: without entries, and without sessions
pub record IsFirst (name : Name) (shared : SharedRows) : Type 0 where
  pub named : IsNamed name shared.plane
  pub ledger : shared.plane.ledger ≡ ledgers.opened name.opening name.limit
  pub visits : shared.visits ≡ []

-- the versions that its board opens with: its policy alone
abbrev pub first_versions : Name → VersionRows
first_versions name = record { earlier = []; latest = name.site.opening; last = name.site.word.last }

-- the opening of a world of so many sessions
abbrev pub opening_of : Name → ℕ → OpeningRows
opening_of name sessions = record {
  policy = name.site.opening;
  version_limit = name.site.word.last;
  state = name.opening;
  history_limit = name.limit;
  sessions = sessions;
}

-- ---- what happens

pub data Happening : Type 0 where
  -- a session was opened, and holds this
  Opened : (visit : Visit) → Happening
  -- a session's call, and what its answer rests on
  Called : (session : ℕ) (exchange : Exchange) (basis : Basis) → Happening
  -- a tick of the scheduler, a claim and a report of executors, each at a moment, while a session of theirs had the lock, and what it came to
  Ticked : (session t : ℕ) (told : Result Bool AuditFault) → Happening
  Claimed : (session t : ℕ) (told : Result (Option Claim) AuditFault) → Happening
  Reported : (session : ℕ) (claim : Claim) (outcome : Outcome) (t : ℕ) (told : Result (Unit {0}) ReportRefusal) → Happening

-- a session held this, and then that; the others hold what they held
pub record IsHeld (old : SharedRows) (session : ℕ) (was now : Visit) (new : SharedRows) : Type 0 where
  pub found : slice_get old.visits session ≡ Some was
  pub visits : new.visits ≡ slice_set old.visits session now

-- the board, the plane and one session, as a server for one thread has them
abbrev pub as_solo : Site → PlaneRows → Visit → SoloRows
as_solo site plane visit = record { site = site; plane = plane; session = visit }

-- A call of a session is decided where its data live: on the plane, by one turn, or on the board, which leaves the plane. The versions that
-- there are stand for it.
pub record IsTaken (site : Site) (versions : VersionRows) (old : SharedRows) (session : ℕ) (x : Exchange) (basis : Basis) (new : SharedRows) : Type 0 where
  pub was : Visit
  pub now : Visit
  pub of : IsHeld old session was now new
  pub decided : IsDecided (as_solo site old.plane was) x.asked x.served (as_solo site new.plane now) basis
  pub stands : StandsFor site now versions basis

-- something else was done to the ledger while a session had the lock
pub record IsVisited (old : SharedRows) (session : ℕ) (Does : LedgerRows → LedgerRows → Type 0) (new : SharedRows) : Type 0 where
  pub was : Visit
  pub now : Visit
  pub of : IsHeld old session was now new
  pub does : Does old.plane.ledger new.plane.ledger

-- what happens on a board, from a list of versions, a plane and sessions to others
abbrev pub Happens : Site → VersionRows → SharedRows → Happening → VersionRows → SharedRows → Type 0
Happens site versions old (Opened visit) left new =
    (left ≡ versions) × (new.plane.ledger ≡ old.plane.ledger) × (new.visits ≡ old.visits ++ visit ∷ [])
Happens site versions old (Called session x basis) left new =
    (left ≡ left_by site versions basis) × IsTaken site versions old session x basis new
Happens site versions old (Ticked session t told) left new =
    (left ≡ versions) × IsVisited old session (λ was now. TickIs was t told now) new
Happens site versions old (Claimed session t told) left new =
    (left ≡ versions) × IsVisited old session (λ was now. ClaimIs was t told now) new
Happens site versions old (Reported session claim outcome t told) left new =
    (left ≡ versions) × IsVisited old session (λ was now. ReportIs was claim outcome t told now) new

-- and the plane that it leaves is still the one that the name means
abbrev pub IsHappening : Name → VersionRows → SharedRows → Happening → VersionRows → SharedRows → Type 0
IsHappening name versions old e left new = Happens name.site versions old e left new × IsNamed name new.plane

-- ---- what it is in the world

-- a tick that left this ledger; where there was no memory it is no step
abbrev pub turns_of_tick : LedgerRows → ℕ → Result Bool AuditFault → List AnsweredStep
turns_of_tick left t (Ok changed) = (step.Tick t, Some (tick_told left (Some changed))) ∷ []
turns_of_tick left t (Err HistoryFull) = (step.Tick t, Some (tick_told left None)) ∷ []
turns_of_tick left t (Err OutOfMemory) = []

-- a claim
abbrev pub turns_of_claim : LedgerRows → ℕ → Result (Option Claim) AuditFault → List AnsweredStep
turns_of_claim left t (Ok claim) = (step.Claim t, Some (claim_told left (Some claim))) ∷ []
turns_of_claim left t (Err HistoryFull) = (step.Claim t, Some (claim_told left None)) ∷ []
turns_of_claim left t (Err OutOfMemory) = []

-- a report
abbrev pub turns_of_report : LedgerRows → Claim → Outcome → ℕ → Result (Unit {0}) ReportRefusal → List AnsweredStep
turns_of_report left claim outcome t (Ok done) = (step.Report (try_of claim outcome) t, Some (report_told left (Takes claim))) ∷ []
turns_of_report left claim outcome t (Err (refusal.Fault fault)) = (step.Report (try_of claim outcome) t, Some (report_told left (Faulty fault))) ∷ []
turns_of_report left claim outcome t (Err (refusal.Audit HistoryFull)) = (step.Report (try_of claim outcome) t, Some (report_told left NoRoom)) ∷ []
turns_of_report left claim outcome t (Err (refusal.Audit OutOfMemory)) = []

-- what happened and left this ledger; in the world all sessions are there from the beginning
abbrev pub turns_of_happening : LedgerRows → Happening → List AnsweredStep
turns_of_happening left (Opened visit) = []
turns_of_happening left (Called session x basis) = turns_by session x.asked x.served basis
turns_of_happening left (Ticked session t told) = turns_of_tick left t told
turns_of_happening left (Claimed session t told) = turns_of_claim left t told
turns_of_happening left (Reported session claim outcome t told) = turns_of_report left claim outcome t told

-- ---- of all that happens

-- one after another, with what they are in the world
abbrev pub AreHappenings : Name → VersionRows → SharedRows → List Happening → List AnsweredStep → VersionRows → SharedRows → Type 0
AreHappenings name versions old [] turns left new = (turns ≡ []) × (left ≡ versions) × (new ≡ old)
AreHappenings name versions old (e ∷ es) turns left new =
    (mid : VersionRows) × ((between : SharedRows) × ((later : List AnsweredStep) × IsHappening name versions old e mid between
    × AreHappenings name mid between es later left new × (turns ≡ turns_of_happening between.plane.ledger e ++ later)))

-- the steps lead from an opening to a world over these versions and the plane's ledger, and their answers are those
pub record IsRunOfAll (opening : OpeningRows) (turns : List AnsweredStep) (left : VersionRows) (shared : SharedRows) : Type 0 where
  pub holder : Option ℕ
  pub sessions : List Seen
  pub leads : Reaches opening (steps_in turns) (answers_in turns) (over left shared.plane.ledger holder sessions)
