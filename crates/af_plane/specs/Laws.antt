-- What the calls of the plane, of a session, and of a server for one thread are in the world, so that the laws of all runs hold of them.
use Rattle.std.specs.Prelude.{◌≡◌, ◌+◌, ℕ, List, [], Bool, Option, Some, Result, length, slice_get, slice_set}
use Rattle.af_policy.specs.Rows.{PolicyRows}
use Rattle.af_policy.specs.Versions.{VersionRows, all_versions, with_version}
use Rattle.af_sched.specs.State.{StateRows}
use Rattle.af_sched.specs.declared.claim.Claim.{Claim}
use Rattle.af_sched.specs.declared.outcome.Outcome.{Outcome}
use Rattle.af_ops.specs.declared.call.Call.{Call}
use Rattle.af_ops.specs.declared.call.Call.TheVariants as call
use Rattle.af_ops.specs.declared.policy_op.PolicyOp.{PolicyOp}
use Rattle.af_ops.specs.declared.served.Served.{Served}
use Rattle.af_audit.specs.declared.audit_fault.AuditFault.{AuditFault}
use Rattle.af_audit.specs.declared.report_refusal.ReportRefusal.{ReportRefusal}
use Rattle.af_audit.specs.Acts.{IsState}
use Rattle.af_audit.specs.Claimed.{IsClaimed}
use Rattle.af_audit.specs.Ledgers.{Climb, LedgerRows}
use Rattle.af_audit.specs.Reported.{IsReported}
use Rattle.af_audit.specs.Ticked.{IsTicked}
use Rattle.af_board.specs.Drafted.{Received}
use Rattle.af_board.specs.Marks.{Marked, Site, policy_of}
use Rattle.af_world.specs.Granted.{AreGranted}
use Rattle.af_world.specs.Laws.{FollowEachOther}
use Rattle.af_world.specs.Runs.{told}
use Rattle.af_world.specs.Worlds.{OpeningRows}
use Rattle.af_plane.specs.Administered.{IsAdministered, IsMade, IsToldIn}
use Rattle.af_plane.specs.Alone.{Holds, IsClosed, Stands}
use Rattle.af_plane.specs.Closings.{AgreeWith, HasTakenIn, IsWithin}
use Rattle.af_plane.specs.Events.{AnsweredStep, AreAnswered, AreEvents, AreOneRun, Event, Exchange, StandsFor, answers_in, left_by, named_in, steps_in}
use Rattle.af_plane.specs.Looks.{Basis, looked}
use Rattle.af_plane.specs.Names.{IsCall, IsDone, IsNamed, Name}
use Rattle.af_plane.specs.Planes.{Applies, ApplyIs, ClaimIs, LookIn, ReportIs, TickIs}
use Rattle.af_plane.specs.Requests.{RequestRows}
use Rattle.af_plane.specs.Shared as shared
use Rattle.af_plane.specs.Shared.{Called, IsFirst, SharedRows, first_versions, opening_of}
use Rattle.af_plane.specs.Sheets.{Administers, LooksAndActs, sheet}
use Rattle.af_plane.specs.Solos.{IsOpening, alone}
use Rattle.af_plane.specs.Stays.{Calls, HasGoneOn}
use Rattle.af_plane.specs.Turns.{IsActedUnder}
use Rattle.af_plane.specs.Visits.{PlaneRows, SoloRows, Visit}

-- a look that found a mark is the world's look, over each list of versions that ends there
abbrev pub LooksAreLooks : Type 0
LooksAreLooks = (versions : VersionRows) (site : Site) (m : Marked) (old : LedgerRows) → Stands versions site m → LookIn versions old (looked m.version old)

-- what is applied under a mark is the world's act, over each list of versions that has that version
abbrev pub AppliesAreActs : Type 0
AppliesAreActs =
    (versions : VersionRows) (site : Site) (m : Marked) (old new : LedgerRows) (token : Option (List ℕ)) (asked : Call) (t : ℕ) (gave : Option Served)
    → Holds versions site m → m.version ≡ old.version → Applies (policy_of site m) old token asked t gave new → ApplyIs versions old token asked t gave new

-- a turn of a session that was decided under a mark is a look and an act of it, over each list of versions that ends there
abbrev pub TurnsLookAndAct : Type 0
TurnsLookAndAct =
    (session : ℕ) (versions : VersionRows) (site : Site) (m : Marked) (asked : RequestRows) (old new : PlaneRows) (gave : Served) (was now : Visit)
    → IsState old.ledger.state → IsState new.ledger.state → IsClosed asked.call → Stands versions site m → IsActedUnder site asked old was gave new now m
    → LooksAndActs session (sheet versions old.ledger) asked.token asked.call asked.at gave (sheet versions new.ledger)

-- an operation on the policy that was decided under a mark, and made no version, is one step of the session over each list of versions that
-- ends there
abbrev pub ReadingsAreSteps : Type 0
ReadingsAreSteps =
    (session : ℕ) (versions : VersionRows) (site : Site) (m : Marked) (ledger : LedgerRows) (token : Option (List ℕ)) (asked : PolicyOp) (gave : Served) (now : Visit)
    → IsState ledger.state → Stands versions site m → IsToldIn site token asked gave now m
    → Administers session (sheet versions ledger) m.version token asked gave (sheet versions ledger)

-- a change that made a version is one step of the session from each list of versions that ends with its base to the list with that version
abbrev pub ChangesAreSteps : Type 0
ChangesAreSteps =
    (session : ℕ) (versions : VersionRows) (site : Site) (r : Received) (ledger : LedgerRows) (token : Option (List ℕ)) (asked : PolicyOp) (gave : Served) (now : Visit)
    → IsState ledger.state → Stands versions site r.base → IsMade site token asked gave now r
    → Administers session (sheet versions ledger) r.base.version token asked gave (sheet (with_version versions (policy_of site r.mark)) ledger)

-- all events from an opening on are one run of the world, whose steps are those of the events, with the answers that were given
abbrev pub EventsAreOneRun : Type 0
EventsAreOneRun =
    (policy : PolicyRows) (version_limit : ℕ) (state : StateRows) (history_limit : ℕ) (solo : SoloRows) (events : List Event)
    (turns : List AnsweredStep) (left : VersionRows) (new : SoloRows)
    → IsState state → IsOpening (alone policy version_limit state history_limit) solo
    → AreEvents (record { earlier = []; latest = policy; last = version_limit }) solo events turns left new
    → AreOneRun (alone policy version_limit state history_limit) turns left new

-- the entries lead from the opening state to the one that stands, and each of a user's stands under a version in which that user's roles
-- list a permission for each requirement, on the state before it
abbrev pub EntriesAreGranted : Type 0
EntriesAreGranted =
    (opening : OpeningRows) (turns : List AnsweredStep) (left : VersionRows) (solo : SoloRows) → AreOneRun opening turns left solo
    → AreGranted (all_versions left) opening.state solo.plane.ledger.audit.entries solo.plane.ledger.state

-- each later version is made of the one before it by an author whose roles there list all that the change requires
abbrev pub VersionsFollow : Type 0
VersionsFollow =
    (opening : OpeningRows) (turns : List AnsweredStep) (left : VersionRows) (solo : SoloRows) → AreOneRun opening turns left solo
    → FollowEachOther (all_versions left)

-- the versions that the answers of a server name never fall, and none is before the last that its session had seen
abbrev pub NamedVersionsNeverFall : Type 0
NamedVersionsNeverFall =
    (old : SoloRows) (exchanges : List Exchange) (new : SoloRows) (seen : ℕ)
    → length old.session.pass.places ≡ seen + 1 → AreAnswered old exchanges new → Climb seen (named_in exchanges)

-- ---- of sessions over one plane

-- A call of a session is an event on the plane that was found under the lock, over each list of versions that stands for it: it leaves the
-- plane that the call leaves.
abbrev pub CallsAreEvents : Type 0
CallsAreEvents =
    (name : Name) (versions : VersionRows) (old : SharedRows) (session : ℕ) (x : Exchange) (was now : Visit)
    → slice_get old.visits session ≡ Some was → (it : IsCall name x.asked was x.served now) → it.old ≡ old.plane → StandsFor name.site now versions it.turn.0
    → shared.IsHappening name versions old (Called session x it.turn.0) (left_by name.site versions it.turn.0) (record { plane = it.new; visits = slice_set old.visits session now })

-- so is what it asks of the policy, on the plane that there is
abbrev pub OperationsAreEvents : Type 0
OperationsAreEvents =
    (name : Name) (versions : VersionRows) (old : SharedRows) (session : ℕ) (x : Exchange) (asked : PolicyOp) (was now : Visit) (basis : Basis)
    → x.asked.call ≡ call.Policy asked → slice_get old.visits session ≡ Some was → IsNamed name old.plane
    → IsAdministered name.site x.asked.token asked was x.served now basis → StandsFor name.site now versions basis
    → shared.IsHappening name versions old (Called session x basis) (left_by name.site versions basis) (record { plane = old.plane; visits = slice_set old.visits session now })

-- so is what the scheduler or an executor does, while a session of theirs has the lock
abbrev pub DeedsAreEvents : Type 0
DeedsAreEvents =
    (name : Name) (versions : VersionRows) (old : SharedRows) (session : ℕ) (was now : Visit) → slice_get old.visits session ≡ Some was
    → ((t : ℕ) (told : Result Bool AuditFault) (it : IsDone name was now (λ l m. IsTicked t l m told × TickIs l t told m)) → it.old ≡ old.plane
    → shared.IsHappening name versions old (shared.Ticked session t told) versions (record { plane = it.new; visits = slice_set old.visits session now }))
    × ((t : ℕ) (told : Result (Option Claim) AuditFault) (it : IsDone name was now (λ l m. IsClaimed t l m told × ClaimIs l t told m)) → it.old ≡ old.plane
    → shared.IsHappening name versions old (shared.Claimed session t told) versions (record { plane = it.new; visits = slice_set old.visits session now }))
    × ((claim : Claim) (outcome : Outcome) (t : ℕ) (told : Result (Unit {0}) ReportRefusal) (it : IsDone name was now (λ l m. IsReported t claim outcome l m told × ReportIs l claim outcome t told m)) → it.old ≡ old.plane
    → shared.IsHappening name versions old (shared.Reported session claim outcome t told) versions (record { plane = it.new; visits = slice_set old.visits session now }))

-- Take an order of all that happens at one plane: the first finds the opening plane, and each other what the one before it left. In it is all
-- that the sessions ask for. It is one run of the world of as many sessions: its steps are those of the events, with the answers that were
-- given.
abbrev pub CallsOfAllAreOneRun : Type 0
CallsOfAllAreOneRun =
    (name : Name) (first : SharedRows) (events : List shared.Happening) (turns : List AnsweredStep) (left : VersionRows) (new : SharedRows)
    → IsFirst name first → shared.AreHappenings name (first_versions name) first events turns left new
    → shared.IsRunOfAll (opening_of name (length new.visits)) turns left new

-- the entries lead from the opening state to the one that stands, and each of a user's stands under a version in which that user's roles
-- list a permission for each requirement, on the state before it; whichever session the user came by
abbrev pub EntriesOfAllAreGranted : Type 0
EntriesOfAllAreGranted =
    (opening : OpeningRows) (turns : List AnsweredStep) (left : VersionRows) (new : SharedRows) → shared.IsRunOfAll opening turns left new
    → AreGranted (all_versions left) opening.state new.plane.ledger.audit.entries new.plane.ledger.state

-- each later version is made of the one before it by an author whose roles there list all that the change requires, whichever session it
-- was made by
abbrev pub VersionsOfAllFollow : Type 0
VersionsOfAllFollow =
    (opening : OpeningRows) (turns : List AnsweredStep) (left : VersionRows) (new : SharedRows) → shared.IsRunOfAll opening turns left new
    → FollowEachOther (all_versions left)

-- the versions that the answers to one session name never fall, whatever the others do between
abbrev pub VersionsToldToEachClimb : Type 0
VersionsToldToEachClimb =
    (opening : OpeningRows) (turns : List AnsweredStep) (left : VersionRows) (new : SharedRows) (session : ℕ) → shared.IsRunOfAll opening turns left new
    → Climb 0 (told session (steps_in turns) (answers_in turns))

-- No session goes back: after any calls of one session it has still seen all versions and entries that it had seen, and the versions that
-- its answers name never fall. This needs no order of the calls of others.
abbrev pub NoSessionGoesBack : Type 0
NoSessionGoesBack =
    (name : Name) (was : Visit) (exchanges : List Exchange) (now : Visit) → Calls name was exchanges now → HasGoneOn was exchanges now

-- Two sessions of one control agree, whatever answers they are taken at: each calls on until it is over, and one plane takes both in. So all
-- versions are one list and all entries are another, and each answer is decided on a beginning of both. This needs no order of their calls.
abbrev pub SessionsAgree : Type 0
SessionsAgree =
    (name : Name) (plane : PlaneRows) (one other left right : Visit) (exchanges others : List Exchange)
    → Calls name one exchanges left → Calls name other others right → IsWithin plane left → IsWithin plane right → AgreeWith one other

-- a session that a plane has taken in stays within it, when the plane takes in others
abbrev pub SessionsStayWithin : Type 0
SessionsStayWithin = (old new : PlaneRows) (visit : Visit) → IsWithin old visit → HasTakenIn old new → IsWithin new visit
