-- A server for one thread: where each call is decided. What is asked of the state and of the event logs is decided on the plane, under
-- the last version of the policy (Airflow 2, "Access Control"), and what changes the state is entered there (Airflow 2, "Audit Logs");
-- what is asked of the policy is decided on the board.
use Rattle.std.specs.Prelude.{◌≡◌, ◌+◌, ◌<◌, ℕ, [], ◌∷◌, None, IfSome, length}
use mathlib.Core.List.{IsPrefix}
use Rattle.af_policy.specs.Rows.{PolicyRows}
use Rattle.af_sched.specs.State.{StateRows}
use Rattle.af_ops.specs.declared.call.Call.{Call}
use Rattle.af_ops.specs.declared.call.Call.TheVariants as call
use Rattle.af_ops.specs.declared.served.Served.{Served}
use Rattle.af_ops.specs.declared.served.Served.TheVariants as served
use Rattle.af_audit.specs.Acts.{IsState}
use Rattle.af_audit.specs.Ledgers as ledgers
use Rattle.af_audit.specs.Ledgers.{IsLedger}
use Rattle.af_board.specs.Marks.{Marked}
use Rattle.af_word.specs.Places.{Sight, WordId, Within}
use Rattle.af_world.specs.Worlds.{OpeningRows}
use Rattle.af_plane.specs.declared.grounds.Grounds.TheVariants.{Under}
use Rattle.af_plane.specs.Administered.{IsAdministered}
use Rattle.af_plane.specs.Looks.{AreOver, Basis}
use Rattle.af_plane.specs.Requests.{RequestRows}
use Rattle.af_plane.specs.Turns.{IsPlaced}
use Rattle.af_plane.specs.Visits.{SoloRows, Visit}

-- ---- the opening

-- the opening of a world of two sessions: the server's, and one that publishes beside it
abbrev pub alone : PolicyRows → ℕ → StateRows → ℕ → OpeningRows
alone policy version_limit state history_limit = record {
  policy = policy;
  version_limit = version_limit;
  state = state;
  history_limit = history_limit;
  sessions = 2;
}

-- version 0
abbrev pub first_mark : Marked
first_mark = record { version = 0; token = None }

-- a pass that has seen version 0, after the one split of the opening pass
abbrev pub first_sight : WordId → Sight
first_sight word = record { word = word; places = 0 ∷ []; steps = 0; deeds = 1 }

-- its policy is version 0, which is all that plane and session have seen, and there is no entry
pub record IsOpening (opening : OpeningRows) (solo : SoloRows) : Type 0 where
  pub policy : solo.site.opening ≡ opening.policy
  pub last : solo.site.word.last ≡ opening.version_limit
  pub none : solo.plane.keeper.entries ≡ []
  pub plane : solo.plane ≡ record { pass = first_sight solo.site.word; keeper = solo.plane.keeper; ledger = ledgers.opened opening.state opening.history_limit }
  pub session : solo.session ≡ record { pass = first_sight solo.site.word; entries = solo.plane.keeper; grounds = Under first_mark }

-- ---- a call

-- by the kind of the call; one on the policy leaves the plane
abbrev pub IsDecidedBy : SoloRows → RequestRows → Served → SoloRows → Basis → Call → Type 0
IsDecidedBy old asked gave new basis (call.State op) =
    IsPlaced old.site asked old.plane old.session gave new.plane new.session basis (call.State op)
IsDecidedBy old asked gave new basis (call.Entries window) =
    IsPlaced old.site asked old.plane old.session gave new.plane new.session basis (call.Entries window)
IsDecidedBy old asked gave new basis (call.Policy it) =
    IsAdministered old.site asked.token it old.session gave new.session basis × (new.plane ≡ old.plane)

-- what is served of what is asked, by what it rests on
abbrev pub IsDecided : SoloRows → RequestRows → Served → SoloRows → Basis → Type 0
IsDecided old asked gave new basis = IsDecidedBy old asked gave new basis asked.call

-- the version that an answer names, if it names one, is the last that the session has seen
abbrev pub NamesLast : Served → Visit → Type 0
NamesLast (served.Shown shown) now = IfSome shown.version (λ version. length now.pass.places ≡ version + 1)
NamesLast served.NothingDone now = Unit {0}

-- what is answered to a call, and what is left
pub record IsAnswered (old : SoloRows) (asked : RequestRows) (gave : Served) (new : SoloRows) (basis : Basis) : Type 0 where
  -- the call is decided where its data live
  pub decided : IsDecided old asked gave new basis
  -- on one board
  pub site : new.site ≡ old.site
  -- the session has still seen all versions that it had seen
  pub longer : IsPrefix old.session.pass.places new.session.pass.places
  -- so that the versions that its answers name never fall
  pub names : NamesLast gave new.session
  -- the rows of the state are as they are at all times
  pub state : IsState new.plane.ledger.state

-- what holds at all times
pub record IsSolo (solo : SoloRows) : Type 0 where
  -- the entries make the state of the one that the ledger was opened with; they are numbered without gaps, and their versions never fall
  pub ledger : IsLedger solo.plane.ledger
  -- the rows of the state are as they are at all times
  pub state : IsState solo.plane.ledger.state
  -- the ledger's version, so that of each entry too, is one that the plane has seen
  pub under : solo.plane.ledger.version < length solo.plane.pass.places
  -- the plane's pass is of the board's word, and the session is on the board
  pub over : AreOver solo.site solo.plane.keeper.keeper solo.plane solo.session
  -- whose keeper has the entries
  pub entries : solo.plane.keeper.entries ≡ solo.plane.ledger.audit.entries
  -- and has seen no version past the last possible one
  pub within : Within solo.site.word.first solo.site.word.last solo.session.pass.places
