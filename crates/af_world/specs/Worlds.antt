-- The world: every version of the policy, the state with the entries that made it, and what each session has seen (this product's
-- own rule).
use Rattle.std.specs.Prelude.{ℕ, List, [], Bool, false, Option, Some, None, nat_lt, ◌==◌, length, slice_get, slice_set, if◌then◌else◌, replicate, max}
use Rattle.af_policy.specs.Rows.{PolicyRows}
use Rattle.af_policy.specs.Versions.{VersionRows, all_versions}
use Rattle.af_sched.specs.State.{StateRows}
use Rattle.af_audit.specs.Ledgers.{LedgerRows, opened}
use Rattle.af_world.specs.declared.session.Seen.{Seen}

pub record World : Type 0 where
  -- each version of the policy, and the greatest number that one may have
  pub versions : VersionRows
  -- the state, the opening one and the entries that made it of that one, how many there may be, and the plane's version: the one
  -- under which acts are decided
  pub ledger : LedgerRows
  -- the session that holds the plane: it has looked and not yet acted
  pub holder : Option ℕ
  -- what each session has seen
  pub sessions : List Seen

pub record OpeningRows : Type 0 where
  pub policy : PolicyRows
  pub version_limit : ℕ
  pub state : StateRows
  pub history_limit : ℕ
  pub sessions : ℕ

-- nothing was seen
abbrev pub nothing_seen : Seen
nothing_seen = record { version = 0; entries = 0 }

-- the world before any step
abbrev pub opening_world : OpeningRows → World
opening_world opening = record {
  versions = record { earlier = []; latest = opening.policy; last = opening.version_limit };
  ledger = opened opening.state opening.history_limit;
  holder = None;
  sessions = replicate opening.sessions nothing_seen;
}

-- the policy of a version, if there is that version
abbrev pub policy_at : World → ℕ → Option PolicyRows
policy_at w version = slice_get (all_versions w.versions) version

-- the number of the latest version
abbrev pub last_version : World → ℕ
last_version w = length w.versions.earlier

-- what a session has seen; one that is not there, nothing
abbrev pub seen_or_nothing : Option Seen → Seen
seen_or_nothing None = nothing_seen
seen_or_nothing (Some seen) = seen

abbrev pub seen_by : World → ℕ → Seen
seen_by w session = seen_or_nothing (slice_get w.sessions session)

abbrev pub has_session : World → ℕ → Bool
has_session w session = nat_lt session (length w.sessions)

abbrev pub is_held : Option ℕ → ℕ → Bool
is_held None session = false
is_held (Some holder) session = holder == session

-- the session has seen a version, where that is later than what it had seen
abbrev pub sees : World → ℕ → ℕ → World
sees w session version = record w {
  sessions = slice_set w.sessions session (record {
    version = max (seen_by w session).version version;
    entries = (seen_by w session).entries;
  });
}

-- the session has seen all entries
abbrev pub sees_entries : World → ℕ → World
sees_entries w session = record w {
  sessions = slice_set w.sessions session (record {
    version = (seen_by w session).version;
    entries = length w.ledger.audit.entries;
  });
}

-- its own hold ends
abbrev pub frees : World → ℕ → World
frees w session = record w { holder = if is_held w.holder session then None else w.holder }
