-- A list of versions and a ledger are a sheet, over which worlds of any number of sessions lie. What is answered to a call of a session is a
-- run of each of them (this product's own rule).
use Rattle.std.specs.Prelude.{◌≡◌, ◌≤◌, ℕ, List, [], ◌∷◌, Option, Some, None, length, slice_get, slice_set}
use Rattle.af_policy.specs.declared.ask.Ask.TheVariants.{Bad}
use Rattle.af_policy.specs.declared.bad_input.BadInput.TheVariants as input
use Rattle.af_policy.specs.Versions.{VersionRows}
use Rattle.af_ops.specs.declared.call.Call.{Call}
use Rattle.af_ops.specs.declared.policy_op.PolicyOp.{PolicyOp}
use Rattle.af_ops.specs.declared.policy_op.PolicyOp.TheVariants as asks
use Rattle.af_ops.specs.declared.served.Served.{Served}
use Rattle.af_ops.specs.declared.served.Served.TheVariants as served
use Rattle.af_ops.specs.declared.shown_answer.Shown.{Shown}
use Rattle.af_ops.specs.PolicyVerdicts.{current}
use Rattle.af_audit.specs.Ledgers.{LedgerRows}
use Rattle.af_world.specs.declared.session.Seen.{Seen}
use Rattle.af_world.specs.declared.step.Step.{Step}
use Rattle.af_world.specs.declared.step.Step.TheVariants as step
use Rattle.af_world.specs.Runs.{IsRun}
use Rattle.af_world.specs.Worlds.{World}
use Rattle.af_plane.specs.Planes.{over}

-- who may do what, in all versions; and what there is, with the entries that made it
pub record Sheet : Type 0 where
  pub versions : VersionRows
  pub ledger : LedgerRows

abbrev pub sheet : VersionRows → LedgerRows → Sheet
sheet versions ledger = record { versions = versions; ledger = ledger }

-- the world over it, whose plane is held so, and whose sessions have seen this
abbrev pub world_over : Sheet → Option ℕ → List Seen → World
world_over it holder sessions = over it.versions it.ledger holder sessions

-- what the sessions have seen, where one of them has seen the latest version of a sheet, and so many entries
abbrev pub having_seen : List Seen → ℕ → Sheet → ℕ → List Seen
having_seen sessions session it entries = slice_set sessions session (record { version = current it.versions; entries = entries })

-- Steps of a session lead from a world over one sheet to one over another, and are answered so. The session has then seen the latest version,
-- and all entries if it had seen all; the others have seen what they had.
pub record IsLed (old : Sheet) (holder : Option ℕ) (sessions : List Seen) (session : ℕ) (had : Seen) (steps : List Step) (answers : List (Option Shown)) (new : Sheet) : Type 0 where
  pub left : Option ℕ
  pub entries : ℕ
  pub run : IsRun (world_over old holder sessions) steps answers (world_over new left (having_seen sessions session new entries))
  pub all : had.entries ≡ length old.ledger.audit.entries → entries ≡ length new.ledger.audit.entries

-- so it is in each world over the sheet whose session has seen no later version, whoever holds the plane there
abbrev pub Runs : ℕ → Sheet → List Step → List (Option Shown) → Sheet → Type 0
Runs session old steps answers new =
    (holder : Option ℕ) (sessions : List Seen) (had : Seen) → slice_get sessions session ≡ Some had → had.version ≤ current old.versions
    → IsLed old holder sessions session had steps answers new

-- ---- calls

-- the session looks, and acts; where there was no memory it has looked
abbrev pub LooksAndActs : ℕ → Sheet → Option (List ℕ) → Call → ℕ → Served → Sheet → Type 0
LooksAndActs session old token asked t (served.Shown shown) new =
    Runs session old (step.Look session ∷ step.Act session token asked t ∷ []) (None ∷ Some shown ∷ []) new
LooksAndActs session old token asked t served.NothingDone new = Runs session old (step.Look session ∷ []) (None ∷ []) new

-- The step of an operation on the policy, decided under a version: a change is handed in under it. One whose body was not read, for want of
-- memory, is answered only where it would be refused whatever its body is, so as one whose body is none.
abbrev pub policy_step : ℕ → ℕ → Option (List ℕ) → PolicyOp → Step
policy_step session version token asks.Me = step.Me session token asks.Me
policy_step session version token (asks.Read asked) = step.Me session token (asks.Read asked)
policy_step session version token (asks.Change ask) = step.Publish session version token (asks.Change ask)
policy_step session version token (asks.Unread kind) = step.Publish session version token (asks.Change (Bad kind input.Body))

-- the session takes that step; where there was no memory it takes none
abbrev pub Administers : ℕ → Sheet → ℕ → Option (List ℕ) → PolicyOp → Served → Sheet → Type 0
Administers session old version token asked (served.Shown shown) new =
    Runs session old (policy_step session version token asked ∷ []) (Some shown ∷ []) new
Administers session old version token asked served.NothingDone new = new ≡ old
