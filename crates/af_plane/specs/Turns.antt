-- What a turn on the plane comes to (this product's own rule). The session looks at the board. The plane looks with it, or, beside other
-- calls, has looked last at the version that the session finds. What is asked is decided under that version, of which the session keeps the
-- mark.
use Rattle.std.specs.Prelude.{◌≡◌, ◌⊎◌, ℕ, true, false, Option, Some, None}
use Rattle.af_ops.specs.declared.call.Call.{Call}
use Rattle.af_ops.specs.declared.call.Call.TheVariants as call
use Rattle.af_ops.specs.declared.op.Op.{Op}
use Rattle.af_ops.specs.declared.served.Served.{Served}
use Rattle.af_ops.specs.Effects.{effect_of, nothing_readable}
use Rattle.af_ops.specs.Endpoints.{endpoint_of}
use Rattle.af_ops.specs.Served.{IsServed}
use Rattle.af_ops.specs.Table.{is_open}
use Rattle.af_ops.specs.Verdicts.{opened}
use Rattle.af_audit.specs.Answered.{standing_of}
use Rattle.af_audit.specs.Ledgers.{LedgerRows}
use Rattle.af_board.specs.Marks.{IsLast, Marked, Site, policy_of}
use Rattle.af_plane.specs.declared.grounds.Grounds.TheVariants.{Made, Overtaken, Spent, Under}
use Rattle.af_plane.specs.Blind.{TellsWhatIsRead}
use Rattle.af_plane.specs.Looks.{Basis, HasMet, HasRead, HasSame, IsMissed, Missed, On, Openly, looked}
use Rattle.af_plane.specs.Planes.{Applies}
use Rattle.af_plane.specs.Requests.{RequestRows, only_reads}
use Rattle.af_plane.specs.Visits.{PlaneRows, Visit}

-- a call that is the plane's
abbrev pub IsOfPlane : Call → Type 0
IsOfPlane (call.State asked) = Unit {0}
IsOfPlane (call.Entries window) = Unit {0}
IsOfPlane (call.Policy asked) = ⊥

-- a call on the plane that is decided under a version
abbrev pub IsUnderVersion : Call → Type 0
IsUnderVersion (call.State asked) = is_open (endpoint_of asked) ≡ false
IsUnderVersion (call.Entries window) = Unit {0}
IsUnderVersion (call.Policy asked) = ⊥

-- an open operation was served, which is decided under no policy and looks at nothing
abbrev pub IsOpenly : Op → ℕ → LedgerRows → Served → Type 0
IsOpenly asked t ledger gave =
    IsServed asked (opened (effect_of nothing_readable ledger.state asked t)) (standing_of ledger) gave (standing_of ledger)

-- It was decided under this version, which is the last that the session has then seen, and at which the plane has looked last: the verdict under
-- its policy was served, and what that changes is done.
pub record IsActedUnder (site : Site) (asked : RequestRows) (old : PlaneRows) (was : Visit) (gave : Served) (new : PlaneRows) (now : Visit) (m : Marked) : Type 0 where
  pub held : now.grounds ≡ Under m
  pub last : IsLast site now.pass m
  -- by a meeting, or beside others if the call only reads
  pub met : HasMet old was new now ⊎ ((only_reads asked.call ≡ true) × HasRead old was new now)
  pub same : HasSame site was.grounds m
  pub applied : Applies (policy_of site m) (looked m.version old.ledger) asked.token asked.call asked.at (Some gave) new.ledger
  -- what is read of DAGs, tasks, runs and instances shows nothing of a DAG, or of runs, that the token's owner may not read
  pub blind : TellsWhatIsRead (policy_of site m) (looked m.version old.ledger) asked.token asked.call asked.at (Some gave)

-- nothing was decided, and the ledger stays
pub record IsMissedTurn (old : PlaneRows) (was : Visit) (gave : Served) (new : PlaneRows) (now : Visit) : Type 0 where
  pub missed : IsMissed was gave now
  pub met : HasMet old was new now
  pub ledger : new.ledger ≡ old.ledger

-- what the plane decides after a look, by what that rests on
abbrev pub IsActed : Site → RequestRows → PlaneRows → Visit → Served → PlaneRows → Visit → Basis → Type 0
IsActed site asked old was gave new now Openly = ⊥
IsActed site asked old was gave new now Missed = IsMissedTurn old was gave new now
IsActed site asked old was gave new now (On (Under m)) = IsActedUnder site asked old was gave new now m
IsActed site asked old was gave new now (On (Made r)) = ⊥
IsActed site asked old was gave new now (On (Overtaken m)) = ⊥
IsActed site asked old was gave new now (On (Spent m pushed)) = ⊥

-- an open operation leaves the plane and the session
pub record IsLeft (asked : Op) (t : ℕ) (old : PlaneRows) (was : Visit) (gave : Served) (new : PlaneRows) (now : Visit) (basis : Basis) : Type 0 where
  pub served : IsOpenly asked t old.ledger gave
  pub plane : new ≡ old
  pub session : now ≡ was
  pub openly : basis ≡ Openly

-- by the kind of the call; one on the policy is not the plane's
abbrev pub IsPlaced : Site → RequestRows → PlaneRows → Visit → Served → PlaneRows → Visit → Basis → Call → Type 0
IsPlaced site asked old was gave new now basis (call.State op) =
    (is_open (endpoint_of op) ≡ false → IsActed site asked old was gave new now basis)
    × (is_open (endpoint_of op) ≡ true → IsLeft op asked.at old was gave new now basis)
IsPlaced site asked old was gave new now basis (call.Entries window) = IsActed site asked old was gave new now basis
IsPlaced site asked old was gave new now basis (call.Policy it) = ⊥

-- what a turn comes to
abbrev pub IsTurn : Site → RequestRows → PlaneRows → Visit → Option Served → PlaneRows → Visit → Type 0
IsTurn site asked old was (Some gave) new now = (basis : Basis) × IsPlaced site asked old was gave new now basis asked.call
IsTurn site asked old was None new now = (IsOfPlane asked.call → ⊥) × (new ≡ old) × (now ≡ was)
