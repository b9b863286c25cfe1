-- A list of versions and a ledger are a world of two sessions: ours, which calls, and another, which publishes beside it (this product's own
-- rule).
use Rattle.std.specs.Prelude.{◌≡◌, ℕ, [], ◌∷◌, false, Option, Some, length, slice_get}
use Rattle.af_policy.specs.Versions.{VersionRows, all_versions}
use Rattle.af_ops.specs.declared.call.Call.{Call}
use Rattle.af_ops.specs.declared.call.Call.TheVariants as call
use Rattle.af_ops.specs.Endpoints.{endpoint_of}
use Rattle.af_ops.specs.Table.{is_open}
use Rattle.af_audit.specs.Ledgers.{LedgerRows}
use Rattle.af_board.specs.Marks.{Marked, Site, policy_of}
use Rattle.af_world.specs.declared.session.Seen.{Seen}
use Rattle.af_world.specs.Worlds.{World}
use Rattle.af_plane.specs.Planes.{over}
use Rattle.af_plane.specs.Sheets.{Sheet}

-- ---- versions of a board

-- the list of versions ends with the version that a mark names
pub record Stands (versions : VersionRows) (site : Site) (m : Marked) : Type 0 where
  pub current : length versions.earlier ≡ m.version
  pub latest : versions.latest ≡ policy_of site m
  pub last : versions.last ≡ site.word.last

-- the version that a mark names is one of the list
abbrev pub Holds : VersionRows → Site → Marked → Type 0
Holds versions site m = slice_get (all_versions versions) m.version ≡ Some (policy_of site m)

-- ---- worlds

-- what our session has seen: a version, and all entries
abbrev pub ours : ℕ → LedgerRows → Seen
ours seen ledger = record { version = seen; entries = length ledger.audit.entries }

-- the world of both sessions, whose plane is held so
abbrev pub world_of : Sheet → ℕ → Seen → Option ℕ → World
world_of it seen theirs holder = over it.versions it.ledger holder (ours seen it.ledger ∷ theirs ∷ [])

-- ---- calls

-- a call that is decided on the plane, under a version
abbrev pub IsClosed : Call → Type 0
IsClosed (call.State asked) = is_open (endpoint_of asked) ≡ false
IsClosed (call.Entries window) = Unit {0}
IsClosed (call.Policy asked) = ⊥
