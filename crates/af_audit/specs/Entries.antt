-- The audit: entries under their numbers, and the state that they make of another (Airflow 2, "Audit Logs"; that the entries
-- make the state is this product's own rule).
use Rattle.std.specs.Prelude.{ℕ, ◌≡◌, ◌≤◌, ◌+◌, List, [], ◌∷◌, ◌++◌, map, length, nat_lt, Bool, Option, Some, None, if◌then◌else◌}
use Rattle.std.specs.List.{range_with_len}
use Rattle.af_sched.specs.State.{StateRows}
use Rattle.af_audit.specs.declared.entry.Entry.{Entry}
use Rattle.af_audit.specs.Acts.{IsAfter, IsState}

-- the entries, and how many there may be
pub record AuditRows : Type 0 where
  pub entries : List Entry
  pub limit : ℕ

-- the numbers go from 1 without gaps
abbrev pub AreNumbered : List Entry → Type 0
AreNumbered entries = map (λ entry. entry.seq) entries ≡ range_with_len 1 (length entries)

-- what holds of an audit at all times
pub record IsAudit (audit : AuditRows) : Type 0 where
  pub numbered : AreNumbered audit.entries
  pub within : length audit.entries ≤ audit.limit

-- whether there may be one entry more
abbrev pub has_room : AuditRows → Bool
has_room audit = nat_lt (length audit.entries) audit.limit

-- the number of the next entry, or none where there are as many as there may be
abbrev pub next_seq : AuditRows → Option ℕ
next_seq audit = if has_room audit then Some (length audit.entries + 1) else None

-- with one entry more, the last
abbrev pub with_entry : AuditRows → Entry → AuditRows
with_entry audit entry = record audit { entries = audit.entries ++ entry ∷ [] }

-- the states before these entries and after them, which the acts lead through, each at its moment
abbrev pub IsReplay : StateRows → List Entry → StateRows → Type 0
IsReplay old [] new = new ≡ old
IsReplay old (entry ∷ entries) new =
    (next : StateRows) × IsState next × IsAfter entry.act entry.moment old next × IsReplay next entries new
