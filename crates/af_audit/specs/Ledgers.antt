-- The ledger: the state that stands, beside the one that it was opened with and the entries that made it of that one.
use Rattle.std.specs.Prelude.{ℕ, ◌≡◌, ◌≢◌, ◌≤◌, ◌+◌, List, [], ◌∷◌, ◌++◌, map, length, All, true, false}
use Rattle.af_sched.specs.State.{StateRows}
use Rattle.af_audit.specs.declared.act.Act.{Act}
use Rattle.af_audit.specs.declared.actor.Actor.{Actor}
use Rattle.af_audit.specs.declared.entry.Entry.{Entry}
use Rattle.af_audit.specs.Acts.{IsAfter, IsState, is_by}
use Rattle.af_audit.specs.Entries.{AuditRows, IsAudit, IsReplay, has_room, with_entry}

pub record LedgerRows : Type 0 where
  pub opening : StateRows
  pub state : StateRows
  pub audit : AuditRows
  -- the policy version under which acts are decided
  pub version : ℕ

-- nothing was done yet
abbrev pub opened : StateRows → ℕ → LedgerRows
opened state limit =
    record { opening = state; state = state; audit = record { entries = []; limit = limit }; version = 0 }

-- each number is at least the one before it, and the first at least `low`
abbrev pub Climb : ℕ → List ℕ → Type 0
Climb low [] = Unit {0}
Climb low (n ∷ ns) = (low ≤ n) × Climb n ns

abbrev pub versions_of : List Entry → List ℕ
versions_of entries = map (λ entry. entry.version) entries

-- what holds of a ledger at all times
pub record IsLedger (ledger : LedgerRows) : Type 0 where
  pub opens : IsState ledger.opening
  -- the state is what the entries make of the opening one
  pub replays : IsReplay ledger.opening ledger.audit.entries ledger.state
  pub audit : IsAudit ledger.audit
  -- each entry names one whose act it is
  pub acted : All (λ entry. is_by entry.actor entry.act ≡ true) ledger.audit.entries
  -- the versions of the entries, and after them the ledger's, never fall
  pub climbs : Climb 0 (versions_of ledger.audit.entries ++ ledger.version ∷ [])

-- the entry that an act of an actor at a moment would get
abbrev pub entry_of : LedgerRows → Actor → Act → ℕ → Entry
entry_of ledger who it t =
    record { seq = length ledger.audit.entries + 1; moment = t; actor = who; version = ledger.version; act = it }

-- the ledger with this state, and the entry of the act that made it
abbrev pub entered : LedgerRows → Actor → Act → ℕ → StateRows → LedgerRows
entered ledger who it t next = record ledger { state = next; audit = with_entry ledger.audit (entry_of ledger who it t) }

-- a later ledger: opened with the same state and limit, its first entries are those of the earlier one, and its version is no
-- earlier
pub record Follows (old new : LedgerRows) : Type 0 where
  pub opening : new.opening ≡ old.opening
  pub limit : new.audit.limit ≡ old.audit.limit
  pub more : List Entry
  pub entries : new.audit.entries ≡ old.audit.entries ++ more
  pub version : old.version ≤ new.version

-- the act changed the state, and one entry says so
pub record Enters (who : Actor) (it : Act) (t : ℕ) (old new : LedgerRows) : Type 0 where
  pub room : has_room old.audit ≡ true
  pub after : IsAfter it t old.state new.state
  pub changed : new.state ≢ old.state
  pub ledger : new ≡ entered old who it t new.state

-- the act leaves the state as it was, and there is no entry of it
pub record Stays (it : Act) (t : ℕ) (old new : LedgerRows) : Type 0 where
  pub after : IsAfter it t old.state old.state
  pub ledger : new ≡ old

-- the act would change the state, and there is no room for its entry: nothing is done
pub record FindsNoRoom (it : Act) (t : ℕ) (old new : LedgerRows) : Type 0 where
  pub full : has_room old.audit ≡ false
  pub next : StateRows
  pub after : IsAfter it t old.state next
  pub changed : next ≢ old.state
  pub ledger : new ≡ old
